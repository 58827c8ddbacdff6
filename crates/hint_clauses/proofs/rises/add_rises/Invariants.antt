use Rattle.std.proofs.Common.{◌≡◌}
use Rattle.formula_laws.specs.Counts.{steps_below}
use Rattle.formula_laws.specs.Hints.{with_rise}
use Rattle.hint_clauses.proofs.rises.add_rises.Given as goal
use Rattle.hint_clauses.specs.Chains.{row_at}

abbrev pub invariant-loop-k : goal.invariant-loop-k
invariant-loop-k l = l.f ≡ steps_below l.k (with_rise l.links (row_at l.g l.row)) l.fn.f
