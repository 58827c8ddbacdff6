use Rattle.std.proofs.Common.{length, ◌≡◌}
use Rattle.clause_encode.specs.Fits.{is_fit}
use Rattle.cnf.specs.Gates.{with_clauses}
use Rattle.formula_laws.specs.Allowed.{allowed_by, cell_clauses, node_fits}
use Rattle.formula_laws.specs.Path.{each_below}
use Rattle.clause_encode.proofs.nodes.add_node_row.Given as goal

abbrev pub invariant-loop-j : goal.invariant-loop-j
invariant-loop-j l = l.f ≡ with_clauses l.fn.f (each_below l.j (λ j. cell_clauses l.g.right (node_fits l.left l.right (allowed_by (is_fit (length l.left.links) (length l.right.links) l.fits) l.left l.right)) l.i j))
