pub mod Order
pub mod Reversed
pub mod Same
