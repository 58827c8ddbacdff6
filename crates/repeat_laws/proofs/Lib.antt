mod Cutting
mod Finding
mod Places
mod Removing
pub mod ForCallers
