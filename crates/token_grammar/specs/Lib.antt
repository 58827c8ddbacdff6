pub mod Escapes
pub mod Flaws
pub mod Laws
pub mod Longest
pub mod Names
pub mod Numbers
pub mod Rows
pub mod TokenTexts
