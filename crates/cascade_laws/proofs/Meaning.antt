pub mod Counting
pub mod OneItem
