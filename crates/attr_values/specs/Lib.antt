pub mod Asked
pub mod Messages
pub mod Separators
pub mod Solved
pub mod Value
