pub mod ForCallers
mod FromShape
mod ToShape
mod Walks
