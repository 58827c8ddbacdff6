use Rattle.std.proofs.Common.{◌+◌, ◌≡◌}
use Rattle.formula_laws.specs.Counts.{steps_below}
use Rattle.formula_laws.specs.Hints.{with_shared}
use Rattle.hint_clauses.proofs.hints.add_run_pairs.Given as goal
use Rattle.hint_clauses.specs.Chains.{owns_at}

abbrev pub invariant-loop-p : goal.invariant-loop-p
invariant-loop-p l = l.f ≡ steps_below l.p (λ p. steps_below (l.g.right + 1) (with_shared l.left l.right (owns_at l.g l.count) p)) l.fn.f
