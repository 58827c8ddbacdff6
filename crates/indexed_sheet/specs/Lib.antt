pub mod IndexedParts
pub mod Facts
pub mod MarkList
pub mod Marking
pub mod Putting
pub mod LeftMasks
