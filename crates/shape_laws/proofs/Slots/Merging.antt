-- The places of two matchings, each once and in order.
use Rattle.std.proofs.Common.{List, [], ap, arith, inl, inr, length, refl, subst, suc, sym, zero, ℕ, ◌+◌, ◌∙◌, ◌∷◌, ◌≡◌, ◌≤◌}
use Rattle.shape_laws.proofs.Slots.SlotList.{AreUsed, Slot, SlotsRise, in_both, left_only, places_where, right_only}
use Rattle.shape_laws.proofs.Visits.Order.{Rise, later, order, same, sooner}
use Rattle.shape_laws.proofs.Visits.Places.{Place}

-- slots for two rising lists of places
pub record Merged (c : Place) (xs ys : List Place) : Type 0 where
  pub slots : List Slot
  pub rise : SlotsRise c slots
  pub left : places_where (λ s. s.in_left) slots ≡ xs
  pub right : places_where (λ s. s.in_right) slots ≡ ys
  pub used : AreUsed slots

-- by recursion on both lists: the next slot is the nearer of the two next places, or both where they are one
pub merge : (n : ℕ) (c : Place) (xs ys : List Place) → length xs + length ys ≤ n → Rise c xs → Rise c ys → Merged c xs ys
merge n c [] [] h _ _ = record { slots = []; rise = tt; left = refl; right = refl; used = tt }
merge zero c (p ∷ ps) ys h _ _ = absurd (omega arith)
merge zero c [] (q ∷ qs) h _ _ = absurd (omega arith)
merge (suc n) c (p ∷ ps) [] h (to, up) _ =
    let rest = merge n p ps [] (omega arith) up tt in
    record { slots = left_only p ∷ rest.slots; rise = (to, rest.rise); left = ap (λ more. p ∷ more) rest.left; right = rest.right; used = (inl refl, rest.used) }
merge (suc n) c [] (q ∷ qs) h _ (to, up) =
    let rest = merge n q [] qs (omega arith) tt up in
    record { slots = right_only q ∷ rest.slots; rise = (to, rest.rise); left = rest.left; right = ap (λ more. q ∷ more) rest.right; used = (inr refl, rest.used) }
merge (suc n) c (p ∷ ps) (q ∷ qs) h (to, up) (to', up') = elim (order c p q to to') [
  | sooner less ↦ (let rest = merge n p ps (q ∷ qs) (omega arith) up (less, up') in
      record { slots = left_only p ∷ rest.slots; rise = (to, rest.rise); left = ap (λ more. p ∷ more) rest.left; right = rest.right; used = (inl refl, rest.used) })
  | later less ↦ (let rest = merge n q (p ∷ ps) qs (omega arith) (less, up) up' in
      record { slots = right_only q ∷ rest.slots; rise = (to', rest.rise); left = rest.left; right = ap (λ more. q ∷ more) rest.right; used = (inr refl, rest.used) })
  | same is ↦ (let rest = merge n p ps qs (omega arith) up (subst (λ r. Rise r qs) (sym is) up') in
      record { slots = in_both p ∷ rest.slots; rise = (to, rest.rise); left = ap (λ more. p ∷ more) rest.left; right = (ap (λ more. p ∷ more) rest.right) ∙ ap (λ r. r ∷ qs) is; used = (inl refl, rest.used) })
]
