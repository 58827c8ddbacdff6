pub mod Meeting
pub mod Profile
