-- What the crates above cite of the proofs here: what is read is derived and keeps to the limits, at the end and so far,
-- which positions it tests, and facts on lists.
pub use Rattle.selector_laws.proofs.Answered.{Holds, HoldsOfSome, row_holds}
pub use Rattle.selector_laws.proofs.DerivedStates.{Current, Goes, Stands, cons_head, cons_tail, derived, gap_behind, one_more, some_simples, step_is}
pub use Rattle.selector_laws.proofs.DerivedTests.{Takes, TakesTest, test_is, type_is}
pub use Rattle.selector_laws.proofs.KeptStates.{Keeps, KeepsRead, keeps_link, keeps_nothing, step_keeps}
pub use Rattle.selector_laws.proofs.KeptTerms.{read_keeps, terms_in_range}
pub use Rattle.selector_laws.proofs.KeptTests.{HasRange}
pub use Rattle.selector_laws.proofs.Lists.{all_append, all_reverse}
pub use Rattle.selector_laws.proofs.PositionLemmas.{word_apart, written_are_tested}
