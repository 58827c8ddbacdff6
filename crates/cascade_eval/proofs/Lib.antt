pub mod Applied
pub mod Ascending
pub mod Chosen
pub mod Greatest
pub mod Named
