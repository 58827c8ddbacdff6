mod Ends
mod Examples
pub mod ForCallers
mod Kept
mod Parts
mod Spaces
