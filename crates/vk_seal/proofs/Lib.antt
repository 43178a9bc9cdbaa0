pub mod Forms
pub mod Tapes
pub mod SealsMatch
