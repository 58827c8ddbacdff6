pub mod Meeting
pub mod Shrinking
pub mod Document
pub mod Forced
