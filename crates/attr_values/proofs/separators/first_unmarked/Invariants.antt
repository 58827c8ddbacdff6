use Rattle.attr_values.specs.Separators.{AllMarkedBelow}
use Rattle.attr_values.proofs.separators.first_unmarked.Given as goal

abbrev pub invariant-loop-code : goal.invariant-loop-code
invariant-loop-code l = AllMarkedBelow l.code l.marks
