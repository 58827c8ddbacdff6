use Rattle.std.proofs.Common.{drop, ◌≡◌, ◌≤◌}
use Rattle.formula_laws.specs.Positions.{with_positions}
use Rattle.sibling_clauses.proofs.positions.add_positions.Given as goal

abbrev pub invariant-loop-simple : goal.invariant-loop-simple
invariant-loop-simple l = record {
  left : with_positions l.last l.root l.child l.before l.after (drop l.simple-index l.simples) l.f ≡ with_positions l.last l.root l.child l.before l.after l.simples l.fn.f;
  grows : l.fn.f.vars ≤ l.f.vars;
}
