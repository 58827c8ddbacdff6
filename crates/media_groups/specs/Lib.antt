pub mod Heads
pub mod Laws
pub mod Levels
pub mod Opened
pub mod Printed
pub mod Sorted
