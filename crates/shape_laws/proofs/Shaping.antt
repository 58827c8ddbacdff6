pub mod Conditions
pub mod Made
pub mod Shapes
