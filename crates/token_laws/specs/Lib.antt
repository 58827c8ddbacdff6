pub mod Alike
pub mod Solids
pub mod SpaceBehind
