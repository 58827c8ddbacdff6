use Rattle.std.proofs.Common.{◌≡◌}
use Rattle.formula_laws.specs.Counts.{steps_below}
use Rattle.hint_clauses.proofs.refusals.add_refused_run.Given as goal
use Rattle.hint_clauses.specs.Refusals.{compound_step}

abbrev pub invariant-loop-k : goal.invariant-loop-k
invariant-loop-k l = l.f ≡ steps_below l.k (compound_step l.selector l.run) l.fn.f
