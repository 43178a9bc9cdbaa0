pub mod Buffers
pub mod Forms
pub mod Gives
pub mod Lines
pub mod Tokens
pub mod Common
