pub mod Audited
pub mod Sound
pub mod Served
mod Sealing
mod Saying
pub mod Kept
mod Freely
pub mod Answering
mod Accepted
