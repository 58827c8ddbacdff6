use Rattle.std.proofs.Common.{◌≡◌, ◌++◌, drop}
use Rattle.rup_check.specs.Text.{line_text}
use Rattle.rup_check.proofs.print.push_line.Given as goal

abbrev pub invariant-loop-k : goal.invariant-loop-k
invariant-loop-k l = l.text.items ++ line_text (drop l.k l.clause) ≡ l.fn.text.items ++ line_text l.clause
