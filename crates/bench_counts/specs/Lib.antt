pub mod Asking
pub mod PairCounts
pub mod TokenCounts
