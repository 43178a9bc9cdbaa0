pub mod Honest
pub mod Drawn
pub mod Laws
