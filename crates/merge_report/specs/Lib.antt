pub mod Remaining
pub mod Reports
