use Rattle.std.proofs.Common.{◌≡◌, ◌+◌}
use Rattle.formula_laws.specs.Counts.{steps_below, with_equal}
use Rattle.formula_laws.specs.Formula.{names_of}
use Rattle.sibling_clauses.proofs.counts.add_equals.Given as goal

abbrev pub invariant-loop-i : goal.invariant-loop-i
invariant-loop-i l = record { formula : l.f ≡ steps_below l.i (λ i. steps_below (l.g.right + 1) (with_equal l.left l.right (names_of l.g.left l.g.right l.g.digits) i)) l.fn.f; same : l.f.vars ≡ l.fn.f.vars }
