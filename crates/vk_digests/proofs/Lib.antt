pub mod PaddedMessages
pub mod Lanes
pub mod Majority
pub mod Rotations
