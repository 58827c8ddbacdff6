use Rattle.std.proofs.Common.{◌≡◌}
use Rattle.formula_laws.specs.Counts.{steps_below}
use Rattle.hint_clauses.proofs.denied.add_right_refused.Given as goal
use Rattle.hint_clauses.specs.Refusals.{right_run_step}

abbrev pub invariant-loop-q : goal.invariant-loop-q
invariant-loop-q l = l.f ≡ steps_below l.q (right_run_step l.g l.count l.left l.right) l.fn.f
