use Rattle.order_index.proofs.index.Index.at_distance.Given as goal
use Rattle.order_index.specs.InTurn.{PassBelow}
use Rattle.order_index.specs.Told.{IsAtPlace, Passes, reversed_by}
use Rattle.order_index.specs.Walked.{IsMovedBy}
use Rattle.sheet_order.specs.Allowing.{Stays}

-- the first places are passed
abbrev pub invariant-loop-turn : goal.invariant-loop-turn
invariant-loop-turn l = record {
  stays : Stays l.fn.pairs l.pairs;
  moved : IsMovedBy l.change.window l.change.step l.moving;
  pass : PassBelow (Passes l.pairs.answers) (reversed_by l.change.window.items.now l.change.step) (IsAtPlace l.places l.far) l.turn;
}
