-- Numbers of items, and items by their numbers.
use Rattle.std.proofs.Common.{◌≡◌, ℕ, zero, suc, ◌-◌, ◌<◌, ◌≤◌, Bool, true, false, cond, List, [], ◌∷◌, length, Some, None, refl, arith}
use Rattle.std.specs.Prelude.{slice_get}
use Rattle.std.proofs.lemmas.Bool.Decides.{nat_tests}
use Rattle.why_text.specs.WhyTexts.{is_item, no_item}

-- where an item has the number, it is its place and one
item_below : (count number : ℕ) → is_item count number ≡ true → (1 ≤ number) × (number - 1 < count)
item_below count number h = let low : 1 ≤ number = grind (arith, nat_tests) in let high : number ≤ count = grind (arith, nat_tests) in (low, omega arith)

-- both numbers are of items where none is missing
pub both_items : (count from to : ℕ) → no_item count from to ≡ None → ((1 ≤ from) × (from - 1 < count)) × ((1 ≤ to) × (to - 1 < count))
both_items count from to h = which (is_item count from) (is_item count to) refl refl h
  where
    which : (a b : Bool) → is_item count from ≡ a → is_item count to ≡ b → cond a (cond b None (Some to)) (Some from) ≡ None → ((1 ≤ from) × (from - 1 < count)) × ((1 ≤ to) × (to - 1 < count))
    which true true p q e = (item_below count from p, item_below count to q)
    which true false p q e = absurd (let bad = e in cc)
    which false b p q e = absurd (let bad = e in cc)

-- an item stands below the number of items
pub item_there : {X : Type 0} (xs : List X) (i : ℕ) → i < length xs → (x : X) × (slice_get xs i ≡ Some x)
item_there [] i below = absurd (omega arith)
item_there (x ∷ xs) zero below = (x, refl)
item_there (x ∷ xs) (suc i) below = item_there xs i (omega arith)
