pub mod Divisors
pub mod Leaving
pub mod Remainders
pub mod Sizes
