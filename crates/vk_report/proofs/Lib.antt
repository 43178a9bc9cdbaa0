pub mod Lanes
pub mod Winner
pub mod Meaning
pub mod BitCounts
pub mod Samples
pub mod Refusals
