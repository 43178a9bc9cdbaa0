pub mod Within
pub mod Eight
pub mod Drawing
