pub mod Values
pub mod Texts
pub mod Reading
pub mod Tables
pub mod Published
pub mod Fronts
