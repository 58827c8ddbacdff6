pub mod Items
pub mod MoreItems
pub mod Ranges
