pub mod ForCallers
mod SelectorBits
