pub mod Totals
pub mod Forms
pub mod Faults
pub mod Opening
