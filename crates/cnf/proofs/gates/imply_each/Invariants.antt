use Rattle.std.proofs.Common.{◌≡◌, [], ◌∷◌, map, take}
use Rattle.cnf.specs.Gates.{with_clauses}
use Rattle.cnf.specs.Lits.{negation}
use Rattle.cnf.proofs.gates.imply_each.Given as goal

abbrev pub invariant-loop-lit : goal.invariant-loop-lit
invariant-loop-lit l =
    l.f ≡ with_clauses l.initial.f (map (λ m. negation l.gate ∷ m ∷ []) (take l.lit-index l.lits))
