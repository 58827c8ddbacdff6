pub mod Climbing
pub mod Reaching
pub mod Repeating
pub mod Surrounded
