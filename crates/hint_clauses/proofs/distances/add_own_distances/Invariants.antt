use Rattle.std.proofs.Common.{◌≡◌}
use Rattle.formula_laws.specs.Counts.{steps_below}
use Rattle.hint_clauses.proofs.distances.add_own_distances.Given as goal
use Rattle.hint_clauses.specs.Gaps.{own_step}

abbrev pub invariant-loop-q : goal.invariant-loop-q
invariant-loop-q l = l.f ≡ steps_below l.q (λ q. steps_below q (own_step l.pair l.right q)) l.fn.f
