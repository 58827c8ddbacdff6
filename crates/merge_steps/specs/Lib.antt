pub mod Listing
pub mod Standing
pub mod StepParts
