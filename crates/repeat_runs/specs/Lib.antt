pub mod OneRule
pub mod Running
pub mod Seen
