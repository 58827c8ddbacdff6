pub mod Cells
pub mod Chains
pub mod Counted
pub mod Fronts
pub mod Gaps
pub mod Hints
pub mod Known
pub mod Refusals
