use Rattle.std.proofs.Common.{◌≡◌}
use Rattle.formula_laws.specs.Counts.{steps_below}
use Rattle.hint_clauses.proofs.distances.add_shared_distances_of.Given as goal
use Rattle.hint_clauses.specs.Gaps.{shared_step}

abbrev pub invariant-loop-q : goal.invariant-loop-q
invariant-loop-q l = l.f ≡ steps_below l.q (shared_step l.pair l.p) l.fn.f
