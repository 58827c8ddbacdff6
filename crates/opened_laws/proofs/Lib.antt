mod Alike
mod Back
mod Pieces
pub mod ForCallers
mod Block
mod Media
