pub mod Answers
pub mod Extracted
pub mod Sizes
