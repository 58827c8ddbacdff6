use Rattle.std.proofs.Common.{◌≡◌, ◌++◌, drop}
use Rattle.rup_check.specs.Text.{lines_text}
use Rattle.rup_check.proofs.print.push_formula.Given as goal

abbrev pub invariant-loop-k : goal.invariant-loop-k
invariant-loop-k l = l.text.items ++ lines_text (drop l.k l.f.clauses) ≡ l.fn.text.items ++ lines_text l.f.clauses
