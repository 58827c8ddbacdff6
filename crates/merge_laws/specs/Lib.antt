pub mod Merged
pub mod Reading
