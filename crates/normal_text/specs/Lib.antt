pub mod Ahead
pub mod Normal
pub mod Words
