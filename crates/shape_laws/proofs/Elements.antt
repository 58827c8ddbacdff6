pub mod Counts
pub mod Features
pub mod Ids
pub mod Parents
pub mod Positions
pub mod Seen
pub mod Siblings
