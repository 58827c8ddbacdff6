pub mod Dividing
mod Examples
pub mod ForCallers
pub mod Joining
pub mod Moving
pub mod Searching
