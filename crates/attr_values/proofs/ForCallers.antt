-- What the proofs of other crates may cite.
pub use Rattle.attr_values.proofs.Candidates.{passing-decides}
