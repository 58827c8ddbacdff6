pub mod Recurring
pub mod Runs
