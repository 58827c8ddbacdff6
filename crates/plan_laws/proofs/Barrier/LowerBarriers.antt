-- What hinders a rule from moving down.
use Rattle.std.proofs.Common.{◌≡◌, ◌⊎◌, ℕ, zero, suc, ◌+◌, ◌<◌, ◌≤◌, ◌==◌, Bool, true, false, List, [], ◌∷◌, ◌++◌, length, Some, None, refl, sym, ap, ap₂, ◌∙◌, subst, inl, inr, arith}
use Rattle.std.specs.Prelude.{slice_get}
use Rattle.std.specs.List.{Contains, remove}
use Rattle.std.proofs.lemmas.Bool.{cond-true, cond-false}
use Rattle.std.proofs.lemmas.Bool.Decides.{Decides-eqb}
use Rattle.std.proofs.lemmas.Option.{slice_get_within}
use Rattle.css_model.specs.declared.sheet.Item.{Item}
use Rattle.css_model.specs.declared.sheet.Item.TheVariants.{Rule}
use Rattle.css_model.specs.Cascade.Order.{Pair, HasPair, IsBefore}
use Rattle.css_model.specs.Sheets.RuleParts.{RuleParts}
use Rattle.css_model.specs.Sheets.StyleRule.{selectors_of}
use Rattle.order_laws.specs.Edits.{Change, instead, slots_from, whole_rule, edited}
use Rattle.order_laws.specs.Reversing.{ReversesPair}
use Rattle.order_laws.specs.Slots.{new_items}
use Rattle.order_laws.proofs.ForCallers.{has_append, before_in_two, has_new, has_rule, moved_is}
use Rattle.step_laws.specs.Steps.{decls_of}
use Rattle.plan_laws.specs.Barrier.Barriers.{IsLowerBarrier, moving_down}
use Rattle.plan_laws.proofs.Barrier.Hindering.{one_way, other_number, more_number, parts}

abbrev down : ℕ → ℕ → List Item → List Change
down x y below = record { at = x; by = [] } ∷ record { at = y; by = below } ∷ []

-- of the first part the rule goes
first_goes : (x n y : ℕ) (below : List Item) (items : List Item) → n + length items ≤ y → new_items (slots_from n (down (n + x) y below) items) ≡ remove items x
first_goes zero n y below [] far = refl
first_goes (suc x) n y below [] far = refl
first_goes zero n y below (item ∷ items) far =
    let e : n + 0 ≡ n = omega arith in
    ap₂ (λ (xs ys : List Item). xs ++ ys) (cond-true (n + 0 == n) [] (instead (record { at = y; by = below } ∷ []) n item) ((Decides-eqb (n + 0) n).1 e)) (rest (n + 0) y (n + 1) items (omega arith) (omega arith))
  where
    rest : (x y n : ℕ) (items : List Item) → x < n → n + length items ≤ y → new_items (slots_from n (down x y below) items) ≡ items
    rest x y n [] lx ly = refl
    rest x y n (item ∷ items) lx ly =
        ap₂ (λ (xs ys : List Item). xs ++ ys)
        (cond-false (x == n) [] (instead (record { at = y; by = below } ∷ []) n item) (other_number x n lx) ∙ cond-false (y == n) below (item ∷ []) (more_number y n (omega arith)))
        (rest x y (n + 1) items (omega arith) (omega arith))
first_goes (suc x) n y below (item ∷ items) far =
    let e : n + suc x ≡ (n + 1) + x = omega arith in
    ap₂ (λ (xs ys : List Item). xs ++ ys)
    (cond-false (n + suc x == n) [] (instead (record { at = y; by = below } ∷ []) n item) (more_number (n + suc x) n (omega arith)) ∙ cond-false (y == n) below (item ∷ []) (more_number y n (omega arith)))
    (ap (λ (z : ℕ). new_items (slots_from (n + 1) (down z y below) items)) e ∙ first_goes x (n + 1) y below items (omega arith))

nowhere : (p : Pair) → HasPair [] p → ⊥
nowhere p h = let e : None ≡ Some (Rule h.1.rule) = h.1.rule_at in absurd cc

-- what has a pair in the second part had it there, or it is the rule that was made
had : (x y n : ℕ) (made : RuleParts) (items : List Item) (q : Pair) → HasPair (new_items (slots_from n (down x y (Rule made ∷ [])) items)) q → HasPair items q ⊎ HasPair (Rule made ∷ []) q
had x y n made [] q h = inl h
had x y n made (item ∷ items) q h =
    which (x == n) refl (y == n) refl ((has_append (instead (down x y (Rule made ∷ [])) n item) (new_items (slots_from (n + 1) (down x y (Rule made ∷ [])) items)) q).0 h) (had x y (n + 1) made items q)
  where
    first : (b c : Bool) → (x == n) ≡ b → (y == n) ≡ c → HasPair (instead (down x y (Rule made ∷ [])) n item) q → HasPair (item ∷ items) q ⊎ HasPair (Rule made ∷ []) q
    first true c e g k = absurd (nowhere q (subst (λ (xs : List Item). HasPair xs q) (cond-true (x == n) [] (instead (record { at = y; by = Rule made ∷ [] } ∷ []) n item) e) k))
    first false true e g k = inr (subst (λ (xs : List Item). HasPair xs q) (cond-false (x == n) [] (instead (record { at = y; by = Rule made ∷ [] } ∷ []) n item) e ∙ cond-true (y == n) (Rule made ∷ []) (item ∷ []) g) k)
    first false false e g k = inl ((has_append (item ∷ []) items q).1 (inl (subst (λ (xs : List Item). HasPair xs q) (cond-false (x == n) [] (instead (record { at = y; by = Rule made ∷ [] } ∷ []) n item) e ∙ cond-false (y == n) (Rule made ∷ []) (item ∷ []) g) k)))

    later : HasPair items q ⊎ HasPair (Rule made ∷ []) q → HasPair (item ∷ items) q ⊎ HasPair (Rule made ∷ []) q
    later (inl k) = inl ((has_append (item ∷ []) items q).1 (inr k))
    later (inr k) = inr k

    which : (b : Bool) → (x == n) ≡ b → (c : Bool) → (y == n) ≡ c → HasPair (instead (down x y (Rule made ∷ [])) n item) q ⊎ HasPair (new_items (slots_from (n + 1) (down x y (Rule made ∷ [])) items)) q →
        (HasPair (new_items (slots_from (n + 1) (down x y (Rule made ∷ [])) items)) q → HasPair items q ⊎ HasPair (Rule made ∷ []) q) → HasPair (item ∷ items) q ⊎ HasPair (Rule made ∷ []) q
    which b e c g (inl k) rest = first b c e g k
    which b e c g (inr k) rest = later (rest k)

pub lower_barriers_hinder : (before after : List Item) (x : ℕ) (upper : RuleParts) (p q : Pair) → IsLowerBarrier before after x upper p q →
    (y : ℕ) (lower made : RuleParts) → slice_get after y ≡ Some (Rule lower) → Contains (selectors_of made) p.selector → Contains (decls_of made) p.decl → (Contains (selectors_of made) q.selector → Contains (decls_of made) q.decl → ⊥) →
    ReversesPair (before ++ after) (edited (moving_down before x y upper made) (before ++ after)) (whole_rule x upper) p q
lower_barriers_hinder before after x upper p q lower_barrier y lower made at hs hd lacks = record {
  moved = (moved_is (whole_rule x upper) p).1 (lower_barrier.pair.selector_in, lower_barrier.pair.decl_in);
  there = (lower_barrier.order.later, lower_barrier.order.second.stands);
  weigh = lower_barrier.weigh;
  order = inl (lower_barrier.order, λ b. one_way (edited (moving_down before x y upper made) (before ++ after)) p q b turned);
}
  where
    less : x < length before
    less = slice_get_within before x (Rule upper) lower_barrier.pair.rule_at

    split : new_items (slots_from 0 (down x (length before + y) (Rule made ∷ [])) (before ++ after)) ≡ remove before x ++ new_items (slots_from (length before) (down x (length before + y) (Rule made ∷ [])) after)
    split =
        let e : 0 + length before ≡ length before = omega arith in
        let g : x ≡ 0 + x = omega arith in
        parts (down x (length before + y) (Rule made ∷ [])) 0 before after
        ∙ ap₂ (λ (xs ys : List Item). xs ++ ys)
        (ap (λ (z : ℕ). new_items (slots_from 0 (down z (length before + y) (Rule made ∷ [])) before)) g ∙ first_goes x 0 (length before + y) (Rule made ∷ []) before (omega arith))
        (ap (λ (m : ℕ). new_items (slots_from m (down x (length before + y) (Rule made ∷ [])) after)) e)

    p_there : HasPair (new_items (slots_from (length before) (down x (length before + y) (Rule made ∷ [])) after)) p
    p_there = has_new (down x (length before + y) (Rule made ∷ [])) (length before) after y (Rule lower) p at
        (subst (λ (xs : List Item). HasPair xs p)
        (sym (cond-false (x == length before + y) [] (instead (record { at = length before + y; by = Rule made ∷ [] } ∷ []) (length before + y) (Rule lower)) (other_number x (length before + y) (omega (arith, less)))
        ∙ cond-true (length before + y == length before + y) (Rule made ∷ []) (Rule lower ∷ []) ((Decides-eqb (length before + y) (length before + y)).1 refl)))
        ((has_rule made p).1 (hs, hd)))

    q_gone : HasPair (new_items (slots_from (length before) (down x (length before + y) (Rule made ∷ [])) after)) q → ⊥
    q_gone h = which (had x (length before + y) (length before) made after q h)
      where
        which : HasPair after q ⊎ HasPair (Rule made ∷ []) q → ⊥
        which (inl k) = lower_barrier.not_below k
        which (inr k) = let w = (has_rule made q).0 k in lacks w.0 w.1

    turned : IsBefore (edited (moving_down before x y upper made) (before ++ after)) q p
    turned = subst (λ (xs : List Item). IsBefore xs q p) (sym split)
        ((before_in_two (remove before x) (new_items (slots_from (length before) (down x (length before + y) (Rule made ∷ [])) after)) q p).1 (inr (inl (lower_barrier.other, q_gone, p_there))))
