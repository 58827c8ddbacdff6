pub mod InOrder
pub mod Links
pub mod Merging
pub mod Moves
pub mod Numbers
pub mod SlotList
