mod FormLemmas
pub mod ParseLemmas
pub mod ReadingLemmas
pub mod TermLemmas
pub mod TokenLemmas
