mod Joining
mod Marks
mod Members
mod PieceLemmas
mod PieceWords
mod SoundExamples
mod TermLemmas
mod WordLemmas
