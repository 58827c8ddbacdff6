mod AskedTests
mod Built
mod Candidates
mod Decisions
mod Ends
pub mod ForCallers
mod Inside
mod LongestDash
mod Marks
mod Pieces
mod Separated
mod Steps
mod Unused
mod WordPieces
