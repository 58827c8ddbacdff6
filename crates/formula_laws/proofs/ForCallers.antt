-- The lemmas that other crates cite.
pub use Rattle.formula_laws.proofs.Hints.Lists.{all_each, all_if, all_mapped, all_of_both}
pub use Rattle.formula_laws.proofs.Hints.Runs.{aside_step}
pub use Rattle.formula_laws.proofs.Items.Ranges.{next_below, node_below}
pub use Rattle.formula_laws.proofs.Numbers.Counted.{NamesBelow, numbers}
pub use Rattle.formula_laws.proofs.Whole.Conditions.{SolvedAt}
pub use Rattle.formula_laws.proofs.Whole.Filling.{formula_sound, length_literals, names_below, slot_digits}
pub use Rattle.formula_laws.proofs.Whole.Refusals.{allowed_means}
