mod Floors
mod Tells
mod Way
mod Weights
