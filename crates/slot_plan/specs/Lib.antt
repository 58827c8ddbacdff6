pub mod Counts
pub mod PairParts
pub mod Parts
pub mod Positions
pub mod ShapeParts
pub mod Steps
pub mod ValidShape
