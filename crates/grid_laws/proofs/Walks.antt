pub mod Going
pub mod Laid
pub mod Listing
pub mod Pending
pub mod Placed
pub mod SlotNodes
pub mod Walking
pub mod Strolling
