use Rattle.std.proofs.Common.{◌≡◌}
use Rattle.formula_laws.specs.Counts.{steps_below}
use Rattle.hint_clauses.proofs.denied.add_left_refused.Given as goal
use Rattle.hint_clauses.specs.Refusals.{left_run_step}

abbrev pub invariant-loop-p : goal.invariant-loop-p
invariant-loop-p l = l.f ≡ steps_below l.p (left_run_step l.g l.count l.left l.right) l.fn.f
