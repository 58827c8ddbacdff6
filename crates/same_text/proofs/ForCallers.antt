-- What the proofs of other crates may cite: where `same` is told of two sheets, nothing is found in them.
pub use Rattle.same_text.proofs.Words.{difference_is_nothing}
