mod Applying
mod ApplyingAlike
mod AttributeWords
mod CascadeWords
pub mod ForCallers
mod Greatest
mod InOrder
mod JoiningSets
mod Keeping
mod MatchingWords
mod Ranking
mod Meaning
mod Eval
mod Line
