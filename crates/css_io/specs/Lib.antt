pub mod Io
pub mod Memory
pub mod Messages
pub mod Reading
pub mod Standard
pub mod Sure
