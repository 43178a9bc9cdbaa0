pub mod Lines
pub mod Wires
pub mod Challenges
pub mod Replies
pub mod Openings
