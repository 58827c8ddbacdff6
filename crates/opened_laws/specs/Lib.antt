pub mod Again
pub mod Block
pub mod Media
pub mod Texts
