pub mod Handed
pub mod Shown
pub mod Runs
