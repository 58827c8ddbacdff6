pub mod Cleaned
pub mod Repeats
