pub mod Accepted
pub mod Drawing
pub mod Forms
pub mod Halves
pub mod Wires
