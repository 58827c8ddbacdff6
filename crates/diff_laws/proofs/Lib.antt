mod Applied
mod Best
mod Choice
mod Comparing
mod Distinct
mod Flat
pub mod ForCallers
mod Lasts
mod Listed
mod Numbers
mod Owning
mod Parts
mod Scene
mod Settled
mod Tallying
mod Telling
mod TwoWalks
mod Winning
