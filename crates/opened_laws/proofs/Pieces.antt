pub mod Alone
pub mod Blocks
pub mod Cuts
pub mod Marks
pub mod Whole
