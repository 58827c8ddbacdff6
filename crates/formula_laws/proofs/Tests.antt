pub mod Falling
pub mod Gates
pub mod Remainders
pub mod Rising
pub mod Tested
