pub mod Facts
pub mod FirstBytes
pub mod Kinds
pub mod Lexemes
pub mod Solids
