use Rattle.std.proofs.Common.{◌≡◌, [], ◌∷◌, map, take}
use Rattle.cnf.specs.Gates.{with_clauses}
use Rattle.cnf.specs.Lits.{negation}
use Rattle.cnf.proofs.gates.exclude.Given as goal

abbrev pub invariant-loop-other : goal.invariant-loop-other
invariant-loop-other l =
    l.f ≡ with_clauses l.initial.f (map (λ m. negation l.lit ∷ negation m ∷ []) (take l.other-index l.others))
