-- The order of two pairs hangs on the items that have one of them.
use Rattle.std.proofs.Common.{◌≡◌, ◌↔◌, ◌⊎◌, ℕ, Bool, false, List, [], ◌∷◌, ◌++◌, Some, sym, subst, inl, inr}
use Rattle.std.specs.Prelude.{slice_get}
use Rattle.std.specs.List.{filter, remove}
use Rattle.std.proofs.lemmas.Bool.{cond_both}
use Rattle.css_model.specs.declared.sheet.Item.{Item}
use Rattle.css_model.specs.Cascade.Order.{Pair, HasPair, IsBefore}
use Rattle.css_model.specs.declared.sheet.Item.TheVariants.{Rule}
use Rattle.css_model.specs.Sheets.RuleParts.{RuleParts}
use Rattle.order_laws.proofs.ForCallers.{has_append, BeforeInTwo, before_in_two}
use Rattle.plan_laws.specs.Barrier.Barriers.{IsBarrier}

-- items without the pairs do not count
pub before_kept : (keep : Item → Bool) (p q : Pair) → ((x : Item) → keep x ≡ false → (HasPair (x ∷ []) p → ⊥) × (HasPair (x ∷ []) q → ⊥)) →
    (items : List Item) → (IsBefore items p q ↔ IsBefore (filter keep items) p q) × (HasPair items p ↔ HasPair (filter keep items) p) × (HasPair items q ↔ HasPair (filter keep items) q)
before_kept keep p q none [] = ((λ h. h, λ h. h), (λ h. h, λ h. h), (λ h. h, λ h. h))
before_kept keep p q none (x ∷ items) =
    let ih : (IsBefore items p q ↔ IsBefore (filter keep items) p q) × (HasPair items p ↔ HasPair (filter keep items) p) × (HasPair items q ↔ HasPair (filter keep items) q) = before_kept keep p q none items in
    cond_both (keep x) (x ∷ filter keep items) (filter keep items) (λ ys. (IsBefore (x ∷ items) p q ↔ IsBefore ys p q) × (HasPair (x ∷ items) p ↔ HasPair ys p) × (HasPair (x ∷ items) q ↔ HasPair ys q))
    (λ kept. (
      (λ b. (before_in_two (x ∷ []) (filter keep items) p q).1 (carried ih ((before_in_two (x ∷ []) items p q).0 b)), λ b. (before_in_two (x ∷ []) items p q).1 (carried_back ih ((before_in_two (x ∷ []) (filter keep items) p q).0 b))),
      (λ h. (has_append (x ∷ []) (filter keep items) p).1 (either ih.1.0 ((has_append (x ∷ []) items p).0 h)), λ h. (has_append (x ∷ []) items p).1 (either ih.1.1 ((has_append (x ∷ []) (filter keep items) p).0 h))),
      (λ h. (has_append (x ∷ []) (filter keep items) q).1 (either ih.2.0 ((has_append (x ∷ []) items q).0 h)), λ h. (has_append (x ∷ []) items q).1 (either ih.2.1 ((has_append (x ∷ []) (filter keep items) q).0 h))),
    ))
    (λ gone. (
      (λ b. ih.0.0 (rest (none x gone) ((before_in_two (x ∷ []) items p q).0 b)), λ b. (before_in_two (x ∷ []) items p q).1 (inl (ih.0.1 b))),
      (λ h. ih.1.0 (only (none x gone).0 ((has_append (x ∷ []) items p).0 h)), λ h. (has_append (x ∷ []) items p).1 (inr (ih.1.1 h))),
      (λ h. ih.2.0 (only (none x gone).1 ((has_append (x ∷ []) items q).0 h)), λ h. (has_append (x ∷ []) items q).1 (inr (ih.2.1 h))),
    ))
  where
    either : {A B C : Type 0} → (B → C) → A ⊎ B → A ⊎ C
    either f (inl a) = inl a
    either f (inr b) = inr (f b)

    only : {r : Pair} → (HasPair (x ∷ []) r → ⊥) → HasPair (x ∷ []) r ⊎ HasPair items r → HasPair items r
    only no_pair (inl h) = absurd (no_pair h)
    only no_pair (inr h) = h

    rest : (HasPair (x ∷ []) p → ⊥) × (HasPair (x ∷ []) q → ⊥) → BeforeInTwo (x ∷ []) items p q → IsBefore items p q
    rest no_pair (inl b) = b
    rest no_pair (inr (inl (has, other, later))) = absurd (no_pair.0 has)
    rest no_pair (inr (inr (other, other', b))) = absurd (no_pair.0 (b.place, b.first.stands))

    carried : (IsBefore items p q ↔ IsBefore (filter keep items) p q) × (HasPair items p ↔ HasPair (filter keep items) p) × (HasPair items q ↔ HasPair (filter keep items) q) → BeforeInTwo (x ∷ []) items p q → BeforeInTwo (x ∷ []) (filter keep items) p q
    carried ih (inl b) = inl (ih.0.0 b)
    carried ih (inr (inl (has, other, later))) = inr (inl (has, λ h. other (ih.1.1 h), ih.2.0 later))
    carried ih (inr (inr (other, other', b))) = inr (inr (λ h. other (ih.1.1 h), λ h. other' (ih.2.1 h), b))

    carried_back : (IsBefore items p q ↔ IsBefore (filter keep items) p q) × (HasPair items p ↔ HasPair (filter keep items) p) × (HasPair items q ↔ HasPair (filter keep items) q) → BeforeInTwo (x ∷ []) (filter keep items) p q → BeforeInTwo (x ∷ []) items p q
    carried_back ih (inl b) = inl (ih.0.1 b)
    carried_back ih (inr (inl (has, other, later))) = inr (inl (has, λ h. other (ih.1.0 h), ih.2.1 later))
    carried_back ih (inr (inr (other, other', b))) = inr (inr (λ h. other (ih.1.0 h), λ h. other' (ih.2.0 h), b))

pub others_do_not_count : (keep : Item → Bool) (p q : Pair) → ((x : Item) → keep x ≡ false → (HasPair (x ∷ []) p → ⊥) × (HasPair (x ∷ []) q → ⊥)) →
    (items items' : List Item) → filter keep items ≡ filter keep items' → IsBefore items p q → IsBefore items' p q
others_do_not_count keep p q none items items' same b =
    (before_kept keep p q none items').0.1 (subst (λ (xs : List Item). IsBefore xs p q) same ((before_kept keep p q none items).0.0 b))

-- ---- Barriers stay

pub barriers_stay : (keep : Item → Bool) (p q : Pair) → ((x : Item) → keep x ≡ false → (HasPair (x ∷ []) p → ⊥) × (HasPair (x ∷ []) q → ⊥)) →
    (above below above' below' : List Item) (y y' : ℕ) (lower : RuleParts) →
    filter keep (above ++ below) ≡ filter keep (above' ++ below') → filter keep (remove below y) ≡ filter keep (remove below' y') → slice_get below' y' ≡ Some (Rule lower) →
    IsBarrier above below y lower p q → IsBarrier above' below' y' lower p q
barriers_stay keep p q none above below above' below' y y' lower whole rest at barrier = record {
  pair = record { rule_at = at; selector_in = barrier.pair.selector_in; decl_in = barrier.pair.decl_in };
  nowhere_else = λ h. barrier.nowhere_else ((before_kept keep p q none (remove below y)).1.1 (subst (λ (xs : List Item). HasPair xs p) (sym rest) ((before_kept keep p q none (remove below' y')).1.0 h)));
  other = (before_kept keep p q none (remove below' y')).2.1 (subst (λ (xs : List Item). HasPair xs q) rest ((before_kept keep p q none (remove below y)).2.0 barrier.other));
  weigh = barrier.weigh;
  order = others_do_not_count keep q p (λ x gone. ((none x gone).1, (none x gone).0)) (above ++ below) (above' ++ below') whole barrier.order;
}
