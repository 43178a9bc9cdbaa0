pub mod Sealing
pub mod Commands
pub mod Auctions
pub mod Promises
pub mod Accepted
