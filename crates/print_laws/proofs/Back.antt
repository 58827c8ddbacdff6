pub mod Items
pub mod Parts
pub mod Replaced
pub mod Sheet
pub mod Tokens
