pub mod ForCallers
mod Listed
mod Placing
mod Ready
mod Repeats
