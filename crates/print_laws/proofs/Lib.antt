pub mod ForCallers
mod Back
mod Length
mod Levels
mod Profile
mod Source
mod Tokens
