use Rattle.std.proofs.Common.{◌≡◌, Option, drop}
use Rattle.overlap.specs.PairsParts.{PairsParts}
use Rattle.sheet_order.specs.Allowing.{Stays}
use Rattle.sheet_same.specs.declared.compared.Compared.{Compared}
use Rattle.sheet_same.specs.Judging.{IsJudged}
use Rattle.sheet_same.specs.Standing.{couples_of}
use Rattle.sheet_same.proofs.judging.judged.Given as goal

-- nothing is found in the couples of the first members, so that those of the others tell
abbrev pub invariant-loop-m : goal.invariant-loop-m
invariant-loop-m l = record {
  stays : Stays l.fn.pairs l.pairs;
  behind : l.behind ≡ l.m-index;
  others : (q : PairsParts) (found : Option Compared) → Stays l.pairs q → IsJudged q.answers l.items (couples_of (drop l.m-index l.members)) found → IsJudged q.answers l.items (couples_of l.members) found;
}
