-- The characters, units and tokens of a text, and the text of tokens that are kept.
pub mod Characters
pub mod Kept
pub mod Lexemes
pub mod Names
pub mod Runs
pub mod Source
pub mod TokenAt
pub mod Tokens
pub mod Units
