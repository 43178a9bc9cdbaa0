pub mod Finite
pub mod Places
pub mod Reading
pub mod WritingLemmas
