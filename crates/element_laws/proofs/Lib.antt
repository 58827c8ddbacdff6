mod Asking
mod Attributes
pub mod ForCallers
mod Fresh
mod Named
mod Passing
mod Suiting
