pub mod FourWires
pub mod Readings
