pub mod PrintingLemmas
pub mod Acting
pub mod Sequences
pub mod NamedFiles
pub mod NamedValues
