pub mod Verdicts
pub mod Answers
pub mod Acceptance
pub mod Refusals
pub mod TwoBoards
