pub mod Passing
pub mod Deciding
pub mod Stepping
pub mod Alone
pub mod Once
pub mod Seeds
pub mod Rights
pub mod Migrating
