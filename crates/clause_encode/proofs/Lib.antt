pub mod Adding
pub mod Apart
pub mod Cells
pub mod InRange
pub mod Noded
pub mod Planned
pub mod Ready
pub mod Whole
