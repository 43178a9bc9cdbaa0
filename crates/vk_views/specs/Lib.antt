pub mod Views
pub mod Moved
pub mod OneToOne
pub mod Laws
pub mod Bids
pub mod Auctions
