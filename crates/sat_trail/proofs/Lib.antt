pub mod EntryLemmas
mod Examples
pub mod ForCallers
pub mod HeapLemmas
pub mod LevelLemmas
pub mod OpenLemmas
pub mod PlaceLemmas
