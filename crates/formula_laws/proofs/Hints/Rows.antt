-- The numbers along a row of siblings.
use Rattle.std.proofs.Common.{Bool, List, [], arith, false, inl, inr, length, refl, subst, suc, sym, true, zero, ℕ, ◌+◌, ◌-◌, ◌<◌, ◌∷◌, ◌≡◌, ◌≤◌}
use Rattle.std.proofs.lemmas.Bool.{cases_lt, cond-true, false≢true}
use Rattle.std.specs.Prelude.{if◌then◌else◌}
use Rattle.css_model.specs.declared.selector.Combinator.{Combinator}
use Rattle.css_model.specs.declared.selector.Combinator.TheVariants.{Child, Inside, Later, Next}
use Rattle.formula_laws.specs.Distances.{row_start}
use Rattle.grid_laws.specs.Grid.{goes_up, goes_up_at}
use Rattle.grid_laws.specs.Numbers.{LinkNumbers, RunFits}

-- the next compound is a sibling further to the left
sibling_numbers : (links : List Combinator) (b a : ℕ → ℕ) → RunFits links b a → (k : ℕ) → k < length links → goes_up_at links (suc k) ≡ false → (b (suc k) < b k) × (b (suc k) + a (suc k) ≡ b k + a k)
sibling_numbers [] b a fits k less e = absurd (omega arith)
sibling_numbers (link ∷ links) b a fits zero less e = at link e fits.0
  where
    at : (link : Combinator) → goes_up link ≡ false → LinkNumbers link (b 0) (b 1) (a 0) (a 1) → (b 1 < b 0) × (b 1 + a 1 ≡ b 0 + a 0)
    at Inside e s = absurd (false≢true (sym e))
    at Child e s = absurd (false≢true (sym e))
    at Next e s = let s0 = s.0 in let s1 = s.1 in (omega arith, omega arith)
    at Later e s = s
sibling_numbers (link ∷ links) b a fits (suc k) less e = sibling_numbers links (λ i. b (suc i)) (λ i. a (suc i)) fits.1 k (omega arith) e

pub start_below : (links : List Combinator) (k : ℕ) → row_start links k ≤ k
start_below links zero = omega arith
start_below links (suc k) = by (goes_up_at links (suc k)) (start_below links k)
  where
    by : (t : Bool) → row_start links k ≤ k → (if t then suc k else row_start links k) ≤ suc k
    by true h = omega arith
    by false h = omega arith

pub start_again : (links : List Combinator) (k : ℕ) → row_start links (row_start links k) ≡ row_start links k
start_again links zero = refl
start_again links (suc k) = by (goes_up_at links (suc k)) refl (start_again links k)
  where
    by : (t : Bool) → goes_up_at links (suc k) ≡ t → row_start links (row_start links k) ≡ row_start links k → row_start links (if t then suc k else row_start links k) ≡ (if t then suc k else row_start links k)
    by true e h = cond-true (goes_up_at links (suc k)) (suc k) (row_start links k) e
    by false e h = h

-- of two compounds of a row the first is further to the right
pub record InRow (b a : ℕ → ℕ) (p q : ℕ) : Type 0 where
  pub falls : b q + (q - p) ≤ b p
  pub sum : b q + a q ≡ b p + a p

in_row_same : (b a : ℕ → ℕ) (p q : ℕ) → p ≡ q → InRow b a p q
in_row_same b a p q e = subst (λ (k : ℕ). InRow b a p k) e (record { falls = omega arith; sum = refl })

pub row_numbers : (links : List Combinator) (b a : ℕ → ℕ) → RunFits links b a → (p q : ℕ) → p ≤ q → q ≤ length links → row_start links p ≡ row_start links q → InRow b a p q
row_numbers links b a fits p zero low high e = in_row_same b a p zero (omega arith)
row_numbers links b a fits p (suc q) low high e = elim (cases_lt q p) [
  | inl here ↦ in_row_same b a p (suc q) (omega arith)
  | inr more ↦ by (goes_up_at links (suc q)) refl more e (λ same. row_numbers links b a fits p q more (omega arith) same)
]
  where
    by : (t : Bool) → goes_up_at links (suc q) ≡ t → p ≤ q → row_start links p ≡ (if t then suc q else row_start links q) → (row_start links p ≡ row_start links q → InRow b a p q) → InRow b a p (suc q)
    by true e more same rest = let s = start_below links p in absurd (omega arith)
    by false e more same rest =
        let r = rest same in
        let n = sibling_numbers links b a fits q (omega arith) e in
        let r0 = r.falls in let r1 = r.sum in let n0 = n.0 in let n1 = n.1 in
        record { falls = omega arith; sum = omega arith }
