use Rattle.std.proofs.Common.{◌≡◌, ◌++◌, drop}
use Rattle.rup_check.specs.Text.{lines_text}
use Rattle.rup_check.proofs.print.push_steps.Given as goal

abbrev pub invariant-loop-k : goal.invariant-loop-k
invariant-loop-k l = l.text.items ++ lines_text (drop l.k l.steps) ≡ l.fn.text.items ++ lines_text l.steps
