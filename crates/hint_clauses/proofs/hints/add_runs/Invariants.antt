use Rattle.std.proofs.Common.{◌≡◌}
use Rattle.formula_laws.specs.Counts.{steps_below}
use Rattle.formula_laws.specs.Hints.{with_run_rests}
use Rattle.hint_clauses.proofs.hints.add_runs.Given as goal
use Rattle.hint_clauses.specs.Chains.{row_at}

abbrev pub invariant-loop-p : goal.invariant-loop-p
invariant-loop-p l = l.f ≡ steps_below l.p (with_run_rests l.count l.selector.links l.selector.chain (row_at l.g l.row)) l.fn.f
