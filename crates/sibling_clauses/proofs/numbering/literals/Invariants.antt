use Rattle.std.proofs.Common.{◌≡◌}
use Rattle.formula_laws.specs.Relations.{literals}
use Rattle.sibling_clauses.proofs.numbering.literals.Given as goal

abbrev pub invariant-loop-k : goal.invariant-loop-k
invariant-loop-k l = l.literals.items ≡ literals l.start l.k
