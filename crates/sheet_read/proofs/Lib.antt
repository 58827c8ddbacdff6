mod Entries
mod ItemSteps
mod Nesting
mod Places
mod Placing
mod Preludes
mod ReadSteps
mod Rooms
mod SheetSteps
mod Sorting
mod TokenSteps
pub mod ForCallers
