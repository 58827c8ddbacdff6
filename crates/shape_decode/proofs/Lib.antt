pub mod Along
pub mod Digits
