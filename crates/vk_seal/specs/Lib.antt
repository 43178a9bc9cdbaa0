pub mod Values
pub mod Texts
pub mod Reading
pub mod Tables
pub mod Made
pub mod Match
pub mod Mismatches
