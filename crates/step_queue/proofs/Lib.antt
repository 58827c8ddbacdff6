mod Entries
pub mod ForCallers
mod Keys
pub mod Once
mod Sets
mod Weighing
