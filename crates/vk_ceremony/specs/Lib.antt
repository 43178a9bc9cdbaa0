pub mod Scripts
pub mod Forms
pub mod Ceremonies
pub mod Turns
pub mod Runs
pub mod Acts
pub mod Leaving
