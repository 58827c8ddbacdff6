pub mod Families
pub mod Joining
pub mod Matching
pub mod Winning
pub mod Meaning
pub mod Eval
pub mod Line
