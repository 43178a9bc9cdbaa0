pub mod Faults
pub mod Files
pub mod Reads
pub mod Memory
pub mod Named
pub mod Content
pub mod Writing
