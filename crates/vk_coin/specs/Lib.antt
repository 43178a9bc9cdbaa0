pub mod Bits
pub mod Derived
pub mod Shares
pub mod Coins
pub mod Reading
pub mod Tables
