pub mod Forms
pub mod FormLaws
pub mod Plans
pub mod PlanLaws
pub mod Tables
