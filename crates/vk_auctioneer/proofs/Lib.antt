mod Asking
mod Counting
pub mod Reading
pub mod Working
pub mod Written
pub mod Leaving
pub mod Words
pub mod Naming
