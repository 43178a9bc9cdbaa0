pub mod Outcomes
pub mod Losers
pub mod OutcomeLaws
pub mod UniformPlans
pub mod UniformForms
pub mod UniformLaws
pub mod UniformSelectors
pub mod Circuits
