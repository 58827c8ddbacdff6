pub mod Ids
pub mod InNodes
pub mod Made
pub mod NextNodes
pub mod Nodes
pub mod Root
pub mod ShapeSolved
pub mod Steps
