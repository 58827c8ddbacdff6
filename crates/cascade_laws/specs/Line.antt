pub mod Expansion
pub mod Runs
