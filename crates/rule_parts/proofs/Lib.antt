mod LastCommon
mod PartWeights
mod SelectorSets
mod ToldApart
pub mod ForCallers
