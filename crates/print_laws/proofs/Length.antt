pub mod Filled
pub mod Items
pub mod Mark
pub mod Names
pub mod Parts
pub mod Room
pub mod Sheet
pub mod Tokens
