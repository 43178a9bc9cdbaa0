pub mod Refusals
pub mod Columns
