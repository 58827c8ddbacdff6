pub mod Counted
pub mod Moving
pub mod Related
