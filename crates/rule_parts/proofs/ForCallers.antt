-- What the proofs of other crates may cite: what lists of parts weigh.
pub use Rattle.rule_parts.proofs.PartWeights.{weight-append, weight-filter, weight-parted}
