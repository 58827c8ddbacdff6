use Rattle.std.proofs.Common.{List}
use Rattle.order_index.proofs.walking.with_kept.Given as goal
use Rattle.order_index.specs.InTurn.{PassBelow}
use Rattle.order_index.specs.Told.{IsOfMoved, Passes, moved_by, reversed_by}
use Rattle.order_index.specs.Walked.{IsMovedBy}
use Rattle.order_laws.specs.Reversed.{KeptAt}
use Rattle.overlap.specs.PairsParts.{Answered}

-- the first moved pairs pass
abbrev pub invariant-loop-number : goal.invariant-loop-number
invariant-loop-number l = record {
  moved : IsMovedBy l.change.window l.change.step l.moving;
  pass : (answers : List Answered) → PassBelow (Passes answers) (reversed_by l.change.window.items.now l.change.step) (IsOfMoved (moved_by l.change.window.items.now l.change.step) (KeptAt l.kept.0) l.far) l.number;
}
