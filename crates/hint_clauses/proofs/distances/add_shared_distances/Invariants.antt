use Rattle.std.proofs.Common.{◌+◌, ◌≡◌}
use Rattle.formula_laws.specs.Counts.{steps_below}
use Rattle.hint_clauses.proofs.distances.add_shared_distances.Given as goal
use Rattle.hint_clauses.specs.Gaps.{shared_step}

abbrev pub invariant-loop-p : goal.invariant-loop-p
invariant-loop-p l = l.f ≡ steps_below l.p (λ p. steps_below (l.pair.numbering.right + 1) (shared_step l.pair p)) l.fn.f
