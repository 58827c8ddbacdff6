pub mod Shapes
pub mod Shortest
pub mod Tokens
