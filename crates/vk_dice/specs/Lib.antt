pub mod Words
pub mod Draws
pub mod Stream
pub mod Many
