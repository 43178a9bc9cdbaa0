pub mod Places
pub mod Rows
pub mod Firsts
pub mod Joins
pub mod Orders
