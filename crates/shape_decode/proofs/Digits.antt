-- Numbers in binary are small.
use Rattle.std.proofs.Common.{Bool, List, [], arith, false, length, refl, suc, true, zero, ℕ, ◌*◌, ◌+◌, ◌<◌, ◌^◌, ◌∷◌, ◌≤◌}
use Rattle.std.proofs.Math.Nat.{pow-suc}
use Rattle.cnf.specs.Lits
use Rattle.cnf.specs.Sums.{bit, number}
use Rattle.cnf.specs.Values.{value}
use Rattle.cnf.specs.declared.lit.Lit.{Lit}

bit_small : (b : Bool) → bit b ≤ 1
bit_small true = omega arith
bit_small false = omega arith

-- a number of n digits is below 2^n
number_below : (n : ℕ) (vs : List Bool) (ls : List Lit) → length ls ≤ n → number vs ls < 2 ^ n
number_below zero vs [] h = omega arith
number_below zero vs (l ∷ ls) h = absurd (omega arith)
number_below (suc n) vs [] h = let r = number_below n vs [] (omega arith) in let p = pow-suc 2 n in omega arith
number_below (suc n) vs (l ∷ ls) h = let r = number_below n vs ls (omega arith) in let p = pow-suc 2 n in let b = bit_small (value vs l) in omega arith

pub number_small : (vs : List Bool) (ls : List Lit) → length ls ≤ 25 → number vs ls < 2 ^ 25
number_small vs ls h = number_below 25 vs ls h
