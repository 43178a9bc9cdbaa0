pub mod Outcome
pub mod Proofs
pub mod Jobs
pub mod Published
pub mod Laws
pub mod JobValues
pub mod Answers
pub mod Sources
