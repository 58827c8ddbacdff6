pub mod Telling
pub mod Turned
pub mod Walking
pub mod Weighing
pub mod Weight
