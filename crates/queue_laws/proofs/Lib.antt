mod IndexedBarriers
mod Covered
pub mod ForCallers
mod Joined
mod Kept
mod Reindexing
mod Moves
mod Passing
mod StepNames
mod Reactivated
