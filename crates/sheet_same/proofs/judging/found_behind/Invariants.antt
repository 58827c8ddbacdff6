use Rattle.std.proofs.Common.{Option, drop}
use Rattle.overlap.specs.PairsParts.{PairsParts}
use Rattle.sheet_order.specs.Allowing.{Stays}
use Rattle.sheet_same.specs.declared.compared.Compared.{Compared}
use Rattle.sheet_same.specs.Judging.{IsJudged}
use Rattle.sheet_same.specs.Standing.{couples_with}
use Rattle.sheet_same.proofs.judging.found_behind.Given as goal

-- nothing is found in the first couples, so that the others tell
abbrev pub invariant-loop-x : goal.invariant-loop-x
invariant-loop-x l = record {
  stays : Stays l.fn.pairs l.pairs;
  others : (q : PairsParts) (found : Option Compared) → Stays l.pairs q → IsJudged q.answers l.items (couples_with l.m (drop l.x-index l.later)) found → IsJudged q.answers l.items (couples_with l.m l.later) found;
}
