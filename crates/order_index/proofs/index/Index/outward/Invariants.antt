use Rattle.order_index.proofs.index.Index.outward.Given as goal
use Rattle.order_index.specs.InTurn.{PassBelow}
use Rattle.order_index.specs.Told.{IsFar, Passes, reversed_by}
use Rattle.order_index.specs.Walked.{IsMovedBy}
use Rattle.sheet_order.specs.Allowing.{Stays}

-- what is nearer is passed
abbrev pub invariant-loop-far : goal.invariant-loop-far
invariant-loop-far l = record {
  stays : Stays l.fn.pairs l.pairs;
  moved : IsMovedBy l.change.window l.change.step l.moving;
  pass : PassBelow (Passes l.pairs.answers) (reversed_by l.change.window.items.now l.change.step) IsFar l.far;
}
