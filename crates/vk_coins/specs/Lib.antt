pub mod Drawing
pub mod Joining
pub mod Boards
pub mod Deeds
pub mod Meaning
