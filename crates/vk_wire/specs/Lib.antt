pub mod Coms
pub mod Places
pub mod Values
pub mod Made
pub mod Reads
pub mod Opened
pub mod Laws
