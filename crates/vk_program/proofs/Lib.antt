pub mod Meanwhile
pub mod Nothing
