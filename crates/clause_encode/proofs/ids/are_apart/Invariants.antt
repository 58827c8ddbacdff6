use Rattle.std.proofs.Common.{length, true, ◌≡◌}
use Rattle.formula_laws.specs.Allowed.{all_below, apart_in}
use Rattle.grid_laws.specs.Solved.{nth_compound}
use Rattle.clause_encode.proofs.ids.are_apart.Given as goal

abbrev pub invariant-loop-i : goal.invariant-loop-i
invariant-loop-i l = all_below l.i (λ i. apart_in (nth_compound l.chain i) l.chain (length l.chain) true i) ≡ true
