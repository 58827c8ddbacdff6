pub mod Calls
pub mod Statuses
pub mod Texts
