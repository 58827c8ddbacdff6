pub mod Back
pub mod Closed
pub mod Text
pub mod Together
pub mod Notation
