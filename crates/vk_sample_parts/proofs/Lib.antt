pub mod Seals
pub mod Rows
pub mod Auctions
pub mod Counted
pub mod Acting
