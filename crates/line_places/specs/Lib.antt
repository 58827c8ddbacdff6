pub mod Counts
pub mod Laws
pub mod Lines
pub mod Shown
