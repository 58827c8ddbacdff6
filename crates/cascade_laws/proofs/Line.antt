pub mod Elements
pub mod Expanding
pub mod Paths
pub mod Rules
