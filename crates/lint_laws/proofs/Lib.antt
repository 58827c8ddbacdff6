mod Absorbed
mod Blocks
mod Declarations
mod Finding
mod LastPlace
mod Later
mod Removed
mod Thinned
