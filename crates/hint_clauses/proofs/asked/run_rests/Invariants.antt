use Rattle.std.proofs.Common.{◌≡◌}
use Rattle.formula_laws.specs.Asked.{compound_rests}
use Rattle.formula_laws.specs.Path.{each_below}
use Rattle.hint_clauses.proofs.asked.run_rests.Given as goal

abbrev pub invariant-loop-q : goal.invariant-loop-q
invariant-loop-q l = l.rests.items ≡ each_below l.q (compound_rests l.count l.links l.chain l.p)
