pub mod Cuts
pub mod Elements
pub mod Members
pub mod OptionHash
pub mod Options
pub mod SliceRange
pub mod Sums
pub mod Zips
