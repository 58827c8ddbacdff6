use Rattle.std.proofs.Common.{◌≡◌, ◌+◌, ◌-◌, ◌≤◌, ◌++◌, ◌∷◌, length, map, take}
use Rattle.std.specs.Vec.{vec_len, vec_capacity}
use Rattle.cnf.specs.declared.lit.Lit.{Lit}
use Rattle.sat_arena.proofs.words.push_clause.Given as goal

abbrev pub invariant-loop-lit : goal.invariant-loop-lit
invariant-loop-lit l = record {
  items : l.words.items ≡ l.fn.words.items ++ l.fn.one.0 ∷ l.one_link ∷ l.fn.other.0 ∷ l.other_link ∷ length l.lits ∷ map (λ (x : Lit). x.0) (take l.lit-index l.lits);
  room : vec_len l.words + (length l.lits - l.lit-index) ≤ vec_capacity l.words;
}
