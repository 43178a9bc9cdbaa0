pub mod Causes
pub mod Reports
pub mod Meaning
pub mod Bits
pub mod Samples
