mod Counts
mod Lengths
mod Parts
mod Places
mod Staying
mod Texts
pub mod ForCallers
