pub mod Husbands
pub mod Asking
pub mod Places
pub mod Courted
pub mod Proposed
