pub mod Once
pub mod PairCounts
pub mod PairExamples
pub mod PairSteps
pub mod Planned
pub mod Repeats
