pub mod ForCallers
pub mod Hyphens
pub mod Listed
pub mod ListedBits
pub mod MaskBits
pub mod Words
