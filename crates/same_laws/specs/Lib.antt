pub mod Opened
pub mod Same
