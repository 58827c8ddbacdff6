-- What the proofs of other crates may cite.
pub use Rattle.element_laws.proofs.Fresh.{elements_suit}
pub use Rattle.element_laws.proofs.Named.{kind_full, names_full}
pub use Rattle.element_laws.proofs.Passing.{any_some, suits_same}
pub use Rattle.element_laws.proofs.Suiting.{own_given}
