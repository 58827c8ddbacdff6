-- The lemmas that other crates cite.
pub use Rattle.sibling_clauses.proofs.Adding.{added_each, added_none, added_twice, each_more}
pub use Rattle.sibling_clauses.proofs.Counting.{numbers_grow, step_room, steps_more, steps_stay}
pub use Rattle.sibling_clauses.proofs.Growing.{Grows, less_grows, steps_grow, when_grows}
pub use Rattle.sibling_clauses.proofs.InRange.{first_in_range, lit_stays_in_range, negation_in_range, rest_in_range, stays_in_range}
pub use Rattle.sibling_clauses.proofs.Tested.{keeps_item}
pub use Rattle.sibling_clauses.proofs.WholeTests.{tests_grow}
