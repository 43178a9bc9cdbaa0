pub mod Houses
pub mod Refusals
pub mod Runs
pub mod Statuses
pub mod Stores
pub mod Words
