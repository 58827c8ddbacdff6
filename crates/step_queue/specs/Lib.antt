pub mod WatchLists
pub mod Heaviest
pub mod Once
pub mod RuleWeights
pub mod Told
pub mod BarrierParts
pub mod Weights
