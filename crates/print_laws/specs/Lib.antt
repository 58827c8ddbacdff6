pub mod Printing
pub mod Profile
pub mod Replaced
