pub mod Climbing
pub mod Numbers
pub mod Repeating
pub mod Rows
pub mod Seeing
