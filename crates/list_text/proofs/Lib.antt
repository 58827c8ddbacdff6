mod Blocks
mod Listed
mod Reading
mod Writing
