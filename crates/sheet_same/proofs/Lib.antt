mod Askable
mod Bodies
mod FirstLacking
pub mod ForCallers
mod Judged
mod KeptNumbers
mod KeptTwins
mod LeastPlaces
mod Lists
mod NoneLacking
mod Sorted
mod Spots
mod Standings
mod Weighing
mod Weights
