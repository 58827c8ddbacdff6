pub mod Blocks
pub mod Bodies
pub mod Kept
pub mod Law
pub mod Rows
pub mod Starts
pub mod Steps
pub mod Walk
