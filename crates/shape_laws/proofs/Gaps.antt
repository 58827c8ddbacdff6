pub mod Alike
pub mod AskedParts
pub mod FewSlots
pub mod Pumping
pub mod SmallShapes
