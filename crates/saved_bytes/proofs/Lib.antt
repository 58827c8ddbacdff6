pub mod ForCallers
mod Gains
mod KnownLists
