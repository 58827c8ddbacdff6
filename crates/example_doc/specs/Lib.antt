pub mod Built
pub mod Choosing
pub mod Groups
pub mod Lines
