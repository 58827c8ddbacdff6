mod Answered
mod DerivedStates
mod DerivedTests
mod Examples
pub mod ForCallers
mod KeptStates
mod KeptTerms
mod KeptTests
mod Lists
mod PositionLemmas
mod ReadStates
mod ReadTests
mod Reason
