use Rattle.order_index.proofs.walking.with_pair.Given as goal
use Rattle.order_index.specs.InTurn.{PassBelow}
use Rattle.order_index.specs.Told.{IsOfMoved, Passes, moved_by, reversed_by}
use Rattle.order_index.specs.Walked.{IsMovedBy}
use Rattle.order_laws.specs.Reversed.{AnotherPair}
use Rattle.sheet_order.specs.Allowing.{Stays}
use Rattle.window_order.specs.Places.{IsKnownPair}

-- the first moved pairs pass
abbrev pub invariant-loop-number : goal.invariant-loop-number
invariant-loop-number l = record {
  stays : Stays l.fn.pairs l.pairs;
  moved : IsMovedBy l.change.window l.change.step l.moving;
  of_q : IsKnownPair l.change.window l.q.pair l.of_q;
  pass : PassBelow (Passes l.pairs.answers) (reversed_by l.change.window.items.now l.change.step) (IsOfMoved (moved_by l.change.window.items.now l.change.step) (AnotherPair l.q) l.far) l.number;
}
