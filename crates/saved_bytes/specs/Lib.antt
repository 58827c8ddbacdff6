pub mod Lengths
pub mod Savings
