pub mod Limits
pub mod Residue
pub mod Steps
