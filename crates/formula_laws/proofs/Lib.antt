mod Examples
pub mod ForCallers
mod Hints
mod Items
mod Numbers
mod Paths
mod Sizes
mod Tests
mod Whole
