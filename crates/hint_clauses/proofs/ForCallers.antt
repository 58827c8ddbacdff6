-- The lemmas that other crates cite.
pub use Rattle.hint_clauses.proofs.Hinting.{hints_grow}
