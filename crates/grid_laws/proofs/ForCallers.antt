-- The lemmas that other crates cite.
pub use Rattle.grid_laws.proofs.ToShape.Uncounted.{renumbered}
