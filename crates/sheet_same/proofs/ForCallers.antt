-- What the proofs of other crates may cite: what the members of a sheet are, their order, and what is known where the first tests find nothing.
pub use Rattle.sheet_same.proofs.NoneLacking.{at_has, both_none, not_lacking, AllNone, all_none}
pub use Rattle.sheet_same.proofs.Sorted.{AreSorted, order_sorted}
pub use Rattle.sheet_same.proofs.Standings.{IsOf, members_of}
