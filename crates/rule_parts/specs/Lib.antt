pub mod LastCommon
pub mod SelectorSets
