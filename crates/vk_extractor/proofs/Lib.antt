pub mod FirstClash
pub mod Wires
pub mod Clashes
pub mod Holding
pub mod Steps
