use Rattle.std.proofs.Common.{◌≡◌, [], length, ◌+◌}
use Rattle.sheet_order.proofs.FirstSelectors.{numbered, with_selectors}
use Rattle.sheet_order.proofs.pairs.first_selectors.Given as goal

-- what was put, and what is left to put of the rest
abbrev pub invariant-rest : goal.invariant-rest
invariant-rest l = record {
  firsts : with_selectors l.firsts.keys (numbered l.number l.rest) ≡ with_selectors [] (numbered 0 l.selectors);
  number : l.number + length l.rest ≡ length l.selectors;
}

abbrev pub decreases-rest : goal.decreases-rest
decreases-rest l = length l.rest
