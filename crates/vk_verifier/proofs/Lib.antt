pub mod Fronts
pub mod Plans
pub mod Verdicts
pub mod Named
