pub mod Auctions
pub mod Texts
pub mod Written
pub mod Effects
