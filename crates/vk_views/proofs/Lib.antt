pub mod Wires
pub mod Rows
pub mod Lanes
pub mod Counts
pub mod Bids
pub mod Auctions
