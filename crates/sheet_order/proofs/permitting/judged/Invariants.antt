use Rattle.std.proofs.Common.{take}
use Rattle.sheet_order.specs.Allowing.{Stays, AreFree}
use Rattle.sheet_order.proofs.permitting.judged.Given as goal

-- the first entries are free
abbrev pub invariant-loop-entry : goal.invariant-loop-entry
invariant-loop-entry l = record {
  stays : Stays l.fn.pairs l.pairs;
  free : AreFree l.pairs.answers (take l.entry-index l.entries);
}
