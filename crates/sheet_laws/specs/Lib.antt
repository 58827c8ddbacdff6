pub mod Reading
pub mod Sourced
pub mod Twins
