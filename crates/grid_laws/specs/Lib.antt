pub mod Grid
pub mod Numbers
pub mod Slots
pub mod Solved
pub mod Solving
