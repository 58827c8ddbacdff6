pub mod Entries
pub mod Groups
pub mod Laws
pub mod Order
pub mod Words
