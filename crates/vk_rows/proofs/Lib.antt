pub mod Lists
pub mod Misses
pub mod Same
pub mod Joins
pub mod Exact
pub mod Readable
