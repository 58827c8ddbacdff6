use Rattle.std.proofs.Common.{true, ◌&&◌, ◌||◌, not, ◌≡◌}
use Rattle.std.specs.Prelude.{◌==◌}
use Rattle.formula_laws.specs.Allowed.{all_below, share_id}
use Rattle.grid_laws.specs.Solved.{nth_compound}
use Rattle.clause_encode.proofs.ids.is_apart.Given as goal

abbrev pub invariant-loop-i : goal.invariant-loop-i
invariant-loop-i l = all_below l.i (λ i. (l.beside && (i == l.k)) || not (share_id l.simples (nth_compound l.chain i))) ≡ true
