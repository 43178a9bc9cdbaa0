pub mod Sums
pub mod SumLaws
pub mod Forms
pub mod Judging
