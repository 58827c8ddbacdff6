use Rattle.std.proofs.Common.{◌≡◌}
use Rattle.formula_laws.specs.Counts.{steps_below}
use Rattle.hint_clauses.proofs.distances.add_own_distances_to.Given as goal
use Rattle.hint_clauses.specs.Gaps.{own_step}

abbrev pub invariant-loop-p : goal.invariant-loop-p
invariant-loop-p l = l.f ≡ steps_below l.p (own_step l.pair l.right l.q) l.fn.f
