mod Askable
mod Common
mod Finding
mod FirstSelectors
mod Held
mod Inserting
mod KeptNumbers
mod LastDecls
mod LastItems
mod Limited
mod Limits
mod Lists
mod NarrowEntries
mod Permission
mod PuttingIn
mod RulePairs
mod Somewhere
pub mod ForCallers
