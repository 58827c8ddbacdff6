-- The lemmas that other crates cite.
pub use Rattle.sat_watch.proofs.NumberLemmas.{
  under-at,
  under-append,
  under-index,
  known-from,
  clauses_of-push,
  clauses_of-numbered,
  numbered-push,
  clause_of-push,
  clause_of-new,
}
pub use Rattle.sat_watch.proofs.ReadyLemmas.{ready-start, ready-decided, ready-attached, backed-start, short-attached, sound-decide, open-negation}
pub use Rattle.sat_watch.proofs.ShortLemmas.{longer-grows, rested}
pub use Rattle.sat_watch.proofs.StepLemmas.{reasoned-push, reasoned-wider, reasoned-up_to, take-at, negation-injective}
pub use Rattle.sat_watch.proofs.UndoLemmas.{within-low, trail-undone, front-same, looked-undone, ready-undone, sound-undone}
pub use Rattle.sat_watch.proofs.WatchLemmas.{backs-undo, backs-open, backed-less}
