mod Ascending
mod Cutting
mod EntrySets
mod FreePlaces
mod OrderKeyedPairs
mod InCommon
mod LeftOut
mod ListedEntries
mod ListsUnder
mod Numbers
mod OtherRules
mod PartTests
mod Reached
mod Sharing
mod Standing
mod StepRules
pub mod ForCallers
