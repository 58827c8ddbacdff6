mod AnswerParts
mod Apart
mod Bits
mod ByParts
mod FlagParts
pub mod ForCallers
mod FreeNames
mod IdParts
mod KindParts
mod Left
mod Members
mod NameParts
mod NoFlags
mod Small
mod TableSteps
mod TwoLists
mod Whole
