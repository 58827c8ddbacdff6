mod Applying
mod Ascending
mod Blocks
mod Descending
mod First
pub mod ForCallers
mod Giving
mod Groups
mod Ranks
mod Walking
mod Winning
