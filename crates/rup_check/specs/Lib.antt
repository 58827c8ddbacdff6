pub mod Checks
pub mod Fronts
pub mod Laws
pub mod Reading
pub mod Root
pub mod Text
