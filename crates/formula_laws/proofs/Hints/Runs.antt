-- What is left of the number of a run's first compound.
use Rattle.std.proofs.Common.{Bool, List, [], ap, arith, false, inl, inr, length, refl, suc, true, zero, ℕ, ◌&&◌, ◌+◌, ◌-◌, ◌<◌, ◌||◌, ◌∷◌, ◌≡◌, ◌≤◌, ◌⊎◌}
use Rattle.std.proofs.lemmas.Bool.{and_parts, eqb-true, false≢true}
use Rattle.std.specs.List.{AllByRecursion, filter_map}
use Rattle.std.specs.Prelude.{◌==◌}
use Rattle.css_model.specs.declared.selector.Combinator.{Combinator}
use Rattle.css_model.specs.declared.selector.Combinator.TheVariants.{Child, Inside, Later, Next}
use Rattle.css_model.specs.declared.selector.Simple.{Simple}
use Rattle.formula_laws.proofs.Hints.Lists.{all_each, all_if}
use Rattle.formula_laws.proofs.Hints.Positions.{compound_leaves, compound_steps, counted}
use Rattle.formula_laws.proofs.Tests.Tested.{CompoundSays}
use Rattle.formula_laws.specs.Asked.{are_joined, aside, asked_rest, compound_rests, is_next, is_next_at, run_rests}
use Rattle.formula_laws.specs.declared.count.Count.{Count}
use Rattle.formula_laws.specs.declared.count.Count.TheVariants.{Before, Behind}
use Rattle.grid_laws.specs.Numbers.{LinkNumbers, RunFits}
use Rattle.grid_laws.specs.Solved.{nth_compound}
use Rattle.remainders.proofs.ForCallers.{HaveSteps, moved_left}
use Rattle.remainders.specs.Remainders.{Leaves}
use Rattle.remainders.specs.declared.remainder.Remainder.{Remainder}

-- the numbers of direct neighbours
next_numbers : (links : List Combinator) (b a : ℕ → ℕ) → RunFits links b a → (k : ℕ) → is_next_at links k ≡ true → (b k ≡ suc (b (suc k))) × (a (suc k) ≡ suc (a k))
next_numbers [] b a fits k e = absurd (false≢true e)
next_numbers (link ∷ links) b a fits zero e = at link e fits.0
  where
    at : (link : Combinator) → is_next link ≡ true → LinkNumbers link (b 0) (b 1) (a 0) (a 1) → (b 0 ≡ suc (b 1)) × (a 1 ≡ suc (a 0))
    at Inside e s = absurd (false≢true e)
    at Child e s = absurd (false≢true e)
    at Next e s = s
    at Later e s = absurd (false≢true e)
next_numbers (link ∷ links) b a fits (suc k) e = next_numbers links (λ i. b (suc i)) (λ i. a (suc i)) fits.1 k e

either : (b c : Bool) → (b || c) ≡ true → (b ≡ true) ⊎ (c ≡ true)
either true c e = inl refl
either false c e = inr e

-- how far the q-th compound stands to the left of the p-th
pub record Joined (b a : ℕ → ℕ) (p q : ℕ) : Type 0 where
  pub order : p ≤ q
  pub fewer : b p ≡ b q + (q - p)
  pub more : a q ≡ a p + (q - p)

pub joined_numbers : (links : List Combinator) (b a : ℕ → ℕ) → RunFits links b a → (p q : ℕ) → are_joined links p q ≡ true → Joined b a p q
joined_numbers links b a fits p zero e = let is = eqb-true p 0 e in record { order = omega arith; fewer = let w = ap b is in omega arith; more = let w = ap a is in omega arith }
joined_numbers links b a fits p (suc q) e = elim (either (p == suc q) (are_joined links p q && is_next_at links q) e) [
  | inl here ↦ let is = eqb-true p (suc q) here in record { order = omega arith; fewer = let w = ap b is in omega arith; more = let w = ap a is in omega arith }
  | inr far ↦
      let parts = and_parts (are_joined links p q) (is_next_at links q) far in
      let j = joined_numbers links b a fits p q parts.0 in
      let n = next_numbers links b a fits q parts.1 in
      let o = j.order in let f = j.fewer in let m = j.more in let n0 = n.0 in let n1 = n.1 in
      record { order = omega arith; fewer = omega arith; more = omega arith }
]

-- a number that is `right` greater before an element, or less behind it, and the other way round for `left`
abbrev pub IsAside : Count → ℕ → ℕ → ℕ → ℕ → Type 0
IsAside Before n m right left = m + left ≡ n + right
IsAside Behind n m right left = m + right ≡ n + left

pub aside_leaves : (count : Count) (n m right left : ℕ) (r : Remainder) → IsAside count n m right left → Leaves n r → Leaves m (aside count right left r)
aside_leaves Before n m right left r far h = moved_left n m right left r far h
aside_leaves Behind n m right left r far h = moved_left n m left right r far h

pub joined_aside : (count : Count) (b a : ℕ → ℕ) (p q : ℕ) → Joined b a p q → IsAside count (counted count (b q) (a q)) (counted count (b p) (a p)) (q - p) 0
joined_aside Before b a p q j = let f = j.fewer in omega arith
joined_aside Behind b a p q j = let m = j.more in omega arith

-- all that is asked of a run is left by the number of its first compound
pub run_leaves : (count : Count) (links : List Combinator) (chain : List (List Simple)) (b a : ℕ → ℕ) (last : ℕ → Bool) (r c : Bool) → RunFits links b a →
    ((q : ℕ) → q < suc (length links) → CompoundSays (last q) r c (b q) (a q) (nth_compound chain q)) →
    (p : ℕ) → AllByRecursion (Leaves (counted count (b p) (a p))) (run_rests count links chain p)
run_leaves count links chain b a last r c fits each p =
    all_each (Leaves (counted count (b p) (a p))) (suc (length links)) (compound_rests count links chain p) (λ q less.
    all_if (Leaves (counted count (b p) (a p))) (are_joined links p q) (filter_map (asked_rest count (q - p)) (nth_compound chain q)) (λ e.
    compound_leaves count (last q) r c (b q) (a q) (nth_compound chain q) (q - p) (Leaves (counted count (b p) (a p))) (each q less)
    (λ s h. aside_leaves count (counted count (b q) (a q)) (counted count (b p) (a p)) (q - p) 0 s (joined_aside count b a p q (joined_numbers links b a fits p q e)) h)))

pub aside_step : (count : Count) (right left : ℕ) (r : Remainder) → (aside count right left r).step ≡ r.step
aside_step Before right left r = refl
aside_step Behind right left r = refl

pub run_steps : (count : Count) (links : List Combinator) (chain : List (List Simple)) (p : ℕ) → HaveSteps (run_rests count links chain p)
run_steps count links chain p =
    all_each (λ (r : Remainder). 0 < r.step) (suc (length links)) (compound_rests count links chain p) (λ q less.
    all_if (λ (r : Remainder). 0 < r.step) (are_joined links p q) (filter_map (asked_rest count (q - p)) (nth_compound chain q)) (λ e.
    compound_steps count (nth_compound chain q) (q - p) (λ (r : Remainder). 0 < r.step) (λ r h. let s = aside_step count (q - p) 0 r in omega arith)))
