pub mod ForCallers
mod Same
mod SameExamples
mod SameFeatures
mod SelectorDigests
