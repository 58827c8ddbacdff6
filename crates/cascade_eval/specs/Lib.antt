pub mod Entries
pub mod Winners
