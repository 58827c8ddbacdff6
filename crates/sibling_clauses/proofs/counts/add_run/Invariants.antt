use Rattle.std.proofs.Common.{drop, ◌*◌, ◌+◌, ◌≡◌, ◌≤◌}
use Rattle.sibling_clauses.specs.Rows.{after_at, before_at}
use Rattle.formula_laws.specs.Counts.{with_run}
use Rattle.formula_laws.specs.Formula.{names_of}
use Rattle.sibling_clauses.proofs.counts.add_run.Given as goal

abbrev pub invariant-loop-k : goal.invariant-loop-k
invariant-loop-k l = record {
  left : with_run (drop l.k l.links) (before_at l.g (l.first + 2 * l.k)) (after_at l.g (l.first + 2 * l.k)) (names_of l.g.left l.g.right l.g.digits).one l.f
      ≡ with_run l.links (before_at l.g l.first) (after_at l.g l.first) (names_of l.g.left l.g.right l.g.digits).one l.fn.f;
  grows : l.fn.f.vars ≤ l.f.vars;
}
