mod CommentLemmas
mod CommentParts
mod EscapeLemmas
mod LawLemmas
mod LexedLemmas
mod Marks
mod PartLemmas
pub mod PlainNames
mod RestartLemmas
mod RuleLemmas
mod RunLemmas
mod SaidLemmas
mod StreamLemmas
mod StringLemmas
mod Utf8Length
mod WholeCharacters
pub mod ForCallers
