pub mod Laws
pub mod SlotElements
pub mod Trees
