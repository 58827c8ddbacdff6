pub mod DistanceSizes
pub mod FormulaSizes
pub mod HintSizes
pub mod HintedSizes
pub mod RefusedSizes
pub mod Sizes
pub mod TestSizes
