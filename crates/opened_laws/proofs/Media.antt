pub mod Meaning
pub mod OpenedRoom
pub mod Reading
