pub mod Tables
pub mod Rows
pub mod Holding
pub mod Telling
pub mod Former
pub mod Refused
pub mod Runs
pub mod Serving
