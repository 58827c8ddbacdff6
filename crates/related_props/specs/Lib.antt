pub mod Laws
pub mod Masks
pub mod Parts
pub mod Seen
pub mod Table
