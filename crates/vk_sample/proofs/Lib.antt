pub mod Auctions
pub mod Opened
pub mod Pieces
pub mod Acting
