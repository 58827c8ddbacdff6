use Rattle.order_index.proofs.index.Index.at_rule.Given as goal
use Rattle.order_index.specs.InTurn.{PassBelow}
use Rattle.order_index.specs.Told.{IsWithPair, Passes, reversed_by}
use Rattle.order_index.specs.Walked.{IsMovedBy}
use Rattle.sheet_order.specs.Allowing.{Stays}

-- the first pairs are passed
abbrev pub invariant-loop-q : goal.invariant-loop-q
invariant-loop-q l = record {
  stays : Stays l.fn.pairs l.pairs;
  moved : IsMovedBy l.change.window l.change.step l.moving;
  pass : PassBelow (Passes l.pairs.answers) (reversed_by l.change.window.items.now l.change.step) (IsWithPair l.others l.far) l.q-index;
}
