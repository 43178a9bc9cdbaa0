pub mod Texts
pub mod Samples
pub mod Laws
