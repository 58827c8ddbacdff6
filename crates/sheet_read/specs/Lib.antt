pub mod Cut
pub mod Messages
pub mod Placed
pub mod Reading
pub mod Steps
