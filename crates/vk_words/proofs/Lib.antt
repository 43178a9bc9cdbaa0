mod Asking
mod Rows
mod Listing
pub mod ScriptLemmas
pub mod Fitting
