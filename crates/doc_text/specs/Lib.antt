pub mod DocText
pub mod Elements
pub mod Lines
pub mod Messages
pub mod Reading
pub mod States
