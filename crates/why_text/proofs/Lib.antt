mod Blocking
mod Entries
mod Evidence
pub mod ForCallers
mod FreeMoves
mod Moves
mod Numbers
mod OrderShown
mod Places
