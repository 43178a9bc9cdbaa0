pub mod Common
pub mod Inputs
pub mod Lines
pub mod Effects
pub mod Answers
pub mod Laws
pub mod Leaving
