pub mod ForCallers
mod Found
mod Locating
mod Printing
mod Words
