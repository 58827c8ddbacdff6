pub mod ForCallers
mod OneSource
mod Printed
mod Shown
mod Soundness
mod Source
