-- What hinders an edit stays while other items come and go.
use Rattle.std.proofs.Common.{◌≡◌, ◌↔◌, ◌⊎◌, ℕ, ◌≤◌, Bool, false, cond, List, [], ◌∷◌, length, Some, refl, sym, ap, ◌∙◌, subst, inl, inr, arith}
use Rattle.std.specs.Prelude.{slice_get}
use Rattle.std.specs.List.{filter}
use Rattle.std.proofs.lemmas.Bool.{cond_both, false≢true}
use Rattle.css_model.specs.declared.sheet.Item.{Item}
use Rattle.css_model.specs.declared.sheet.Item.TheVariants.{Rule, KeptRule, KeptBlock}
use Rattle.css_model.specs.Cascade.Order.{Pair, HasPair, IsBefore, IsBeforeKept}
use Rattle.css_model.specs.Sheets.KeptItems.{is_kept, kept_before, kept_items}
use Rattle.order_laws.specs.Edits.{is_moved, Edit, edited}
use Rattle.order_laws.specs.Reversing.{Differ, ReversesPair, ReversesKept}
use Rattle.order_laws.proofs.ForCallers.{has_append, LastBehind, BehindInTwo, behind_in_two}
use Rattle.plan_laws.specs.Barrier.Staying.{LacksBoth, LacksAndIsRule}
use Rattle.plan_laws.proofs.Barrier.Others.{before_kept, others_do_not_count}

-- ---- A pair and a kept item

no_kept : (x : Item) → is_kept x ≡ false → length (kept_items (x ∷ [])) ≡ 0
no_kept (Rule r) e = refl
no_kept (KeptRule k) e = absurd (false≢true (sym e))
no_kept (KeptBlock p) e = absurd (false≢true (sym e))

abbrev AreAlike : List Item → List Item → Pair → Type 0
AreAlike items others p = ((n : ℕ) → LastBehind items p n ↔ LastBehind others p n) × (HasPair items p ↔ HasPair others p)

-- rules without the pair do not count
behind_filter : (keep : Item → Bool) (p : Pair) → LacksAndIsRule keep p → (items : List Item) → AreAlike items (filter keep items) p
behind_filter keep p lacks [] = (λ n. (λ h. h, λ h. h), (λ h. h, λ h. h))
behind_filter keep p lacks (x ∷ items) =
    let ih : AreAlike items (filter keep items) p = behind_filter keep p lacks items in
    cond_both (keep x) (x ∷ filter keep items) (filter keep items) (λ ys. AreAlike (x ∷ items) ys p)
    (λ kept. (
      λ n. (
        λ b. (behind_in_two (x ∷ []) (filter keep items) p n).1 (carried n ih ((behind_in_two (x ∷ []) items p n).0 b)),
        λ b. (behind_in_two (x ∷ []) items p n).1 (carried_back n ih ((behind_in_two (x ∷ []) (filter keep items) p n).0 b)),
      ),
      (
        λ h. (has_append (x ∷ []) (filter keep items) p).1 (either ih.1.0 ((has_append (x ∷ []) items p).0 h)),
        λ h. (has_append (x ∷ []) items p).1 (either ih.1.1 ((has_append (x ∷ []) (filter keep items) p).0 h)),
      ),
    ))
    (λ gone. (
      λ n. (
        λ b. (ih.0 n).0 (rest n (lacks x gone) ((behind_in_two (x ∷ []) items p n).0 b)),
        λ b. (behind_in_two (x ∷ []) items p n).1 (inl (n, (ih.0 n).1 b, (let none = no_kept x (lacks x gone).1 in omega (arith, none)))),
      ),
      (
        λ h. ih.1.0 (only (lacks x gone).0 ((has_append (x ∷ []) items p).0 h)),
        λ h. (has_append (x ∷ []) items p).1 (inr (ih.1.1 h)),
      ),
    ))
  where
    either : {A B C : Type 0} → (B → C) → A ⊎ B → A ⊎ C
    either f (inl a) = inl a
    either f (inr b) = inr (f b)

    only : (HasPair (x ∷ []) p → ⊥) → HasPair (x ∷ []) p ⊎ HasPair items p → HasPair items p
    only no_pair (inl h) = absurd (no_pair h)
    only no_pair (inr h) = h

    rest : (n : ℕ) → (HasPair (x ∷ []) p → ⊥) × (is_kept x ≡ false) → BehindInTwo (x ∷ []) items p n → LastBehind items p n
    rest n lack (inl (k, b, e)) =
        let same : k ≡ n = (let none = no_kept x lack.1 in omega (arith, none, e)) in
        subst (LastBehind items p) same b
    rest n lack (inr (none, b)) = absurd (lack.0 (b.place, b.stands.stands))

    carried : (n : ℕ) → AreAlike items (filter keep items) p → BehindInTwo (x ∷ []) items p n → BehindInTwo (x ∷ []) (filter keep items) p n
    carried n ih (inl (k, b, e)) = inl (k, (ih.0 k).0 b, e)
    carried n ih (inr (none, b)) = inr (λ h. none (ih.1.1 h), b)

    carried_back : (n : ℕ) → AreAlike items (filter keep items) p → BehindInTwo (x ∷ []) (filter keep items) p n → BehindInTwo (x ∷ []) items p n
    carried_back n ih (inl (k, b, e)) = inl (k, (ih.0 k).1 b, e)
    carried_back n ih (inr (none, b)) = inr (λ h. none (ih.1.0 h), b)

behind_of : (items : List Item) (p : Pair) (number : ℕ) → IsBeforeKept items p number → (n : ℕ) × LastBehind items p n × (n ≤ number)
behind_of items p number b = (kept_before b.place.item items, record { place = b.place; stands = b.stands; number = refl }, b.before)

of_behind : (items : List Item) (p : Pair) (number n : ℕ) → LastBehind items p n → n ≤ number → IsBeforeKept items p number
of_behind items p number n b most = record { place = b.place; stands = b.stands; before = (let e = b.number in omega (arith, e, most)) }

pub other_rules_do_not_count : (keep : Item → Bool) (p : Pair) → LacksAndIsRule keep p → (items items' : List Item) → filter keep items ≡ filter keep items' → (number : ℕ) → IsBeforeKept items p number → IsBeforeKept items' p number
other_rules_do_not_count keep p lacks items items' same number b =
    let w : (n : ℕ) × LastBehind items p n × (n ≤ number) = behind_of items p number b in
    of_behind items' p number w.0 (((behind_filter keep p lacks items').0 w.0).1 (subst (λ (xs : List Item). LastBehind xs p w.0) same (((behind_filter keep p lacks items).0 w.0).0 w.1))) w.2

-- ---- What is reversed

differ : {P P' Q Q' : Type 0} → P ↔ P' → Q ↔ Q' → Differ P Q → Differ P' Q'
differ f g (inl (h, none)) = inl (f.0 h, λ k. none (g.1 k))
differ f g (inr (none, h)) = inr (λ k. none (f.1 k), g.0 h)

pub hindrances_stay : (keep : Item → Bool) (p q : Pair) → LacksBoth keep p q → (items items' : List Item) (e e' : Edit) →
    filter keep items ≡ filter keep items' → filter keep (edited e items) ≡ filter keep (edited e' items') → is_moved e.moved p ≡ is_moved e'.moved p →
    ReversesPair items (edited e items) e.moved p q → ReversesPair items' (edited e' items') e'.moved p q
hindrances_stay keep p q lacks items items' e e' same after moved reverses = record {
  moved = sym moved ∙ reverses.moved;
  there = (before_kept keep p q lacks items').2.1 (subst (λ (xs : List Item). HasPair xs q) same ((before_kept keep p q lacks items).2.0 reverses.there));
  weigh = reverses.weigh;
  order = differ (both items items' same) (both (edited e items) (edited e' items') after) reverses.order;
}
  where
    both : (xs ys : List Item) → filter keep xs ≡ filter keep ys → IsBefore xs p q ↔ IsBefore ys p q
    both xs ys equal = (others_do_not_count keep p q lacks xs ys equal, others_do_not_count keep p q lacks ys xs (sym equal))

-- the kept items are among those that count
kept_among : (keep : Item → Bool) → ((x : Item) → keep x ≡ false → is_kept x ≡ false) → (items : List Item) → kept_items (filter keep items) ≡ kept_items items
kept_among keep rules [] = refl
kept_among keep rules (x ∷ items) =
    cond_both (keep x) (x ∷ filter keep items) (filter keep items) (λ ys. kept_items ys ≡ kept_items (x ∷ items))
    (λ kept. ap (λ (xs : List Item). cond (is_kept x) (x ∷ xs) xs) (kept_among keep rules items))
    (λ gone. kept_among keep rules items ∙ sym (ap (λ (b : Bool). cond b (x ∷ kept_items items) (kept_items items)) (rules x gone)))

pub kept_hindrances_stay : (keep : Item → Bool) (p : Pair) → LacksAndIsRule keep p → (items items' : List Item) (e e' : Edit) →
    filter keep items ≡ filter keep items' → filter keep (edited e items) ≡ filter keep (edited e' items') → is_moved e.moved p ≡ is_moved e'.moved p →
    (number : ℕ) → ReversesKept items (edited e items) e.moved p number → ReversesKept items' (edited e' items') e'.moved p number
kept_hindrances_stay keep p lacks items items' e e' same after moved number reverses = record {
  item = reverses.item;
  moved = sym moved ∙ reverses.moved;
  item_at = subst (λ (xs : List Item). slice_get xs number ≡ Some reverses.item) kept reverses.item_at;
  weighs = reverses.weighs;
  order = differ (both items items' same) (both (edited e items) (edited e' items') after) reverses.order;
}
  where
    kept : kept_items items ≡ kept_items items'
    kept = sym (kept_among keep (λ x gone. (lacks x gone).1) items) ∙ ap kept_items same ∙ kept_among keep (λ x gone. (lacks x gone).1) items'

    both : (xs ys : List Item) → filter keep xs ≡ filter keep ys → IsBeforeKept xs p number ↔ IsBeforeKept ys p number
    both xs ys equal = (other_rules_do_not_count keep p lacks xs ys equal number, other_rules_do_not_count keep p lacks ys xs (sym equal) number)
