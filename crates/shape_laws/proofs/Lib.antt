mod Elements
mod Gaps
mod Lists
mod Shaping
mod Slots
mod Visits
pub mod ForCallers
mod Document
mod Forcing
