use Rattle.std.proofs.Common.{◌≡◌}
use Rattle.formula_laws.specs.Counts.{steps_below, with_order_right}
use Rattle.formula_laws.specs.Formula.{names_of}
use Rattle.sibling_clauses.proofs.counts.add_right_orders.Given as goal

abbrev pub invariant-loop-i : goal.invariant-loop-i
invariant-loop-i l = l.f ≡ steps_below l.i (λ i. steps_below l.g.right (with_order_right l.left l.right (names_of l.g.left l.g.right l.g.digits) i)) l.fn.f
