pub mod Brackets
pub mod Items
pub mod Sheet
