pub mod Beside
pub mod IndexedBarriers
pub mod Known
pub mod MarkNames
pub mod Reindexed
pub mod Passed
pub mod Remembering
