pub mod Chain
pub mod Lexed
pub mod Parts
pub mod Places
pub mod Reads
pub mod Selectors
pub mod Texts
pub mod Utf8
