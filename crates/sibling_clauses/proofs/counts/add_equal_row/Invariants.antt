use Rattle.std.proofs.Common.{◌≡◌}
use Rattle.formula_laws.specs.Counts.{steps_below, with_equal}
use Rattle.formula_laws.specs.Formula.{names_of}
use Rattle.sibling_clauses.proofs.counts.add_equal_row.Given as goal

abbrev pub invariant-loop-j : goal.invariant-loop-j
invariant-loop-j l = record { formula : l.f ≡ steps_below l.j (with_equal l.left l.right (names_of l.g.left l.g.right l.g.digits) l.i) l.fn.f; same : l.f.vars ≡ l.fn.f.vars }
