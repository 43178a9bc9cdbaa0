pub mod Values
pub mod Commitment
