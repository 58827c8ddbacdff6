pub mod Arguments
pub mod Back
pub mod Beside
pub mod Clean
pub mod Closed
pub mod Derived
pub mod ForCallers
pub mod Left
pub mod ReadBack
pub mod Rows
pub mod Short
pub mod Spelled
pub mod Terms
pub mod Together
pub mod Utf8
mod Notation
