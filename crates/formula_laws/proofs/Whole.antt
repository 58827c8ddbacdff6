pub mod Conditions
pub mod Decided
pub mod Filling
pub mod Refusals
pub mod Tables
