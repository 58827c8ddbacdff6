pub mod Laws
pub mod Left
pub mod Lexed
pub mod Plain
pub mod Said
pub mod UnitOf
