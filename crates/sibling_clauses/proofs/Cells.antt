-- Cells of the grid and numbers of siblings are few.
use Rattle.std.proofs.Common.{[], arith, suc, zero, ℕ, ◌*◌, ◌++◌, ◌+◌, ◌<◌, ◌∙◌, ◌∷◌, ◌≡◌, ◌≤◌, ap}
use Rattle.std.proofs.Math.Nat.{mul-le-mul_right}
use Rattle.cnf.specs.Lits.{positive}
use Rattle.formula_laws.specs.Relations.{literals}

pub cell_small : (i r : ℕ) → i < 12 → r < 12 → i * (r + 1) ≤ 132
cell_small i r hi hr = let a : i * (r + 1) ≤ 11 * (r + 1) = mul-le-mul_right (r + 1) (let l : i ≤ 11 = omega arith in l) in omega arith

pub cells_few : (l r : ℕ) → l < 12 → r < 12 → (l + 1) * (r + 1) ≤ 144
cells_few l r hl hr = let a : (l + 1) * (r + 1) ≤ 12 * (r + 1) = mul-le-mul_right (r + 1) (let h : l + 1 ≤ 12 = omega arith in h) in omega arith

pub slots_few : (q d : ℕ) → q ≤ 48 → d ≤ 25 → q * d ≤ 1200
slots_few q d hq hd = let a : q * d ≤ 48 * d = mul-le-mul_right d hq in omega arith

-- one literal more at the end
pub literals_more : (v n : ℕ) → literals v (n + 1) ≡ literals v n ++ positive (v + n) ∷ []
literals_more v n = rw (let e : n + 1 ≡ suc n = omega arith in e) (more v n)
  where
    more : (v n : ℕ) → literals v (suc n) ≡ literals v n ++ positive (v + n) ∷ []
    more v zero = ap (λ (k : ℕ). positive k ∷ []) (let e : v ≡ v + 0 = omega arith in e)
    more v (suc n) = ap (λ ls. positive v ∷ ls) (more (suc v) n ∙ ap (λ (k : ℕ). literals (suc v) n ++ positive k ∷ []) (let e : suc v + n ≡ v + suc n = omega arith in e))
