pub mod Alike
pub mod Names
pub mod Tokens
pub mod Values
