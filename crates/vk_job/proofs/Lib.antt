pub mod Outcomes
pub mod Sales
pub mod Dry
pub mod Held
pub mod Drawing
pub mod Parts
pub mod Joined
