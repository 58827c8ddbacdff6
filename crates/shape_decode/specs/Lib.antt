pub mod Laid
pub mod Read
pub mod Reading
