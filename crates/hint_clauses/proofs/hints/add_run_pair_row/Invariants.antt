use Rattle.std.proofs.Common.{◌≡◌}
use Rattle.formula_laws.specs.Counts.{steps_below}
use Rattle.formula_laws.specs.Hints.{with_shared}
use Rattle.hint_clauses.proofs.hints.add_run_pair_row.Given as goal
use Rattle.hint_clauses.specs.Chains.{owns_at}

abbrev pub invariant-loop-q : goal.invariant-loop-q
invariant-loop-q l = l.f ≡ steps_below l.q (with_shared l.left l.right (owns_at l.g l.count) l.p) l.fn.f
