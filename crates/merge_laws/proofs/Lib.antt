mod Limits
mod Meanings
mod Planning
mod Writing
pub mod ForCallers
