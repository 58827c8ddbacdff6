pub mod Climbed
pub mod Counted
pub mod Located
pub mod Passed
pub mod Recurring
pub mod Same
