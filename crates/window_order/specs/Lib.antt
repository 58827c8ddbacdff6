pub mod Between
pub mod Found
pub mod Left
pub mod Orders
pub mod Places
pub mod Reversed
pub mod Standing
pub mod Weighing
