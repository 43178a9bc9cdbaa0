pub mod Transfers
pub mod Names
pub mod Outlets
pub mod Kept
