pub mod Blocking
pub mod Bounds
