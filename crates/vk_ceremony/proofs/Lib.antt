mod Taking
mod Writing
mod Turning
pub mod Leading
pub mod Agreeing
pub mod Following
mod Running
pub mod Whole
pub mod Performing
pub mod Standing
mod Leaving
