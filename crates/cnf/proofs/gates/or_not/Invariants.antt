use Rattle.std.proofs.Common.{◌≡◌, ◌∷◌, map, take}
use Rattle.cnf.specs.Lits.{negation}
use Rattle.cnf.proofs.gates.or_not.Given as goal

abbrev pub invariant-loop-lit : goal.invariant-loop-lit
invariant-loop-lit l = l.clause.items ≡ l.fn.gate ∷ map negation (take l.lit-index l.lits)
