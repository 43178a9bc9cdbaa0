pub mod Sums
pub mod Clash
pub mod FirstClash
pub mod Refused
pub mod Values
pub mod Laws
pub mod Confronting
