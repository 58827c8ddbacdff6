pub mod Gaps
pub mod Messages
pub mod Read
