mod Asked
mod Bounds
mod Known
mod Profile
