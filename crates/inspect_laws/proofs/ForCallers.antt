-- What the proofs of other crates may cite: entries of which each is greater than those after it, and that ranks are compared in
-- either order alike.
pub use Rattle.inspect_laws.proofs.Descending.{Descends, descends_from, not_itself, outranks_chain}
pub use Rattle.inspect_laws.proofs.Ranks.{flips}
