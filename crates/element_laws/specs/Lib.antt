pub mod Chosen
pub mod Ids
pub mod Laws
pub mod Names
