use Rattle.std.proofs.Common.{take, ◌++◌, ◌≡◌}
use Rattle.std.specs.List.{filter_map}
use Rattle.formula_laws.specs.Asked.{asked_rest}
use Rattle.hint_clauses.proofs.asked.push_rests.Given as goal

abbrev pub invariant-loop-simple : goal.invariant-loop-simple
invariant-loop-simple l = l.rests.items ≡ l.fn.rests.items ++ filter_map (asked_rest l.count l.right) (take l.simple-index l.simples)
