pub mod ForCallers
mod Named
mod Small
mod Splitting
mod Told
