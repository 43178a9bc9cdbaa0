pub mod Forms
pub mod Faults
pub mod Named
pub mod Fronts
pub mod Verdicts
pub mod Opening
