pub mod Digests
pub mod Messages
pub mod Openings
