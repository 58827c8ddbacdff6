pub mod Entries
pub mod Faults
pub mod Items
pub mod Laws
pub mod Sheet
pub mod Values
