mod Answering
mod Blocking
mod Never
mod Plannable
pub mod ForCallers
