-- A kept item hinders each join of a rule up past it.
use Rattle.std.proofs.Common.{◌≡◌, ℕ, zero, suc, ◌+◌, ◌<◌, ◌≤◌, ◌==◌, Bool, true, false, List, [], ◌∷◌, ◌++◌, length, Some, refl, sym, ap, ap₂, ◌∙◌, subst, inr, arith}
use Rattle.std.specs.Prelude.{slice_get}
use Rattle.std.specs.List.{Contains, remove}
use Rattle.std.proofs.lemmas.Bool.{cond-true, cond-false}
use Rattle.std.proofs.lemmas.Bool.Decides.{Decides-eqb}
use Rattle.std.proofs.lemmas.List.Elements.{filter-append}
use Rattle.std.proofs.lemmas.Option.{slice_get_within}
use Rattle.cascade_laws.proofs.ForCallers.{some-same}
use Rattle.css_model.specs.declared.sheet.Item.{Item}
use Rattle.css_model.specs.declared.sheet.Item.TheVariants.{Rule, KeptRule, KeptBlock}
use Rattle.css_model.specs.Cascade.Order.{Pair, IsLast, IsBeforeKept}
use Rattle.css_model.specs.Cascade.Winner.{Place}
use Rattle.css_model.specs.Sheets.KeptItems.{is_kept, kept_before, kept_items}
use Rattle.css_model.specs.Sheets.RuleParts.{RuleParts}
use Rattle.css_model.specs.Sheets.StyleRule.{selectors_of}
use Rattle.order_laws.specs.Edits.{Change, instead, slots_from, whole_rule, edited}
use Rattle.order_laws.specs.Reversing.{ReversesKept}
use Rattle.order_laws.specs.Slots.{new_items}
use Rattle.order_laws.proofs.ForCallers.{LastBehind, behind_in_two, last_of, moved_is}
use Rattle.step_laws.specs.Steps.{decls_of}
use Rattle.plan_laws.specs.Barrier.Barriers.{IsKeptBarrier, moving_up}
use Rattle.plan_laws.proofs.Barrier.Hindering.{both, more_number, up_split, up_stands}

kept_all : (items : List Item) (i : ℕ) → kept_before i items ≤ length (kept_items items)
kept_all [] zero = omega arith
kept_all [] (suc i) = omega arith
kept_all (x ∷ items) zero = omega arith
kept_all (Rule r ∷ items) (suc i) = kept_all items i
kept_all (KeptRule k ∷ items) (suc i) = let ih : kept_before i items ≤ length (kept_items items) = kept_all items i in omega arith
kept_all (KeptBlock k ∷ items) (suc i) = let ih : kept_before i items ≤ length (kept_items items) = kept_all items i in omega arith

-- where each item becomes rules, or stays, the kept items are the same
kept_new : (changes : List Change) (n : ℕ) (items : List Item) → ((i : ℕ) (x : Item) → slice_get items i ≡ Some x → kept_items (instead changes (n + i) x) ≡ kept_items (x ∷ [])) → kept_items (new_items (slots_from n changes items)) ≡ kept_items items
kept_new changes n [] each = refl
kept_new changes n (x ∷ items) each =
    let e : n + 0 ≡ n = omega arith in
    filter-append is_kept (instead changes n x) (new_items (slots_from (n + 1) changes items))
    ∙ ap₂ (λ (xs ys : List Item). xs ++ ys) (subst (λ (m : ℕ). kept_items (instead changes m x) ≡ kept_items (x ∷ [])) e (each 0 x refl))
    (kept_new changes (n + 1) items (λ i y at. let g : n + suc i ≡ (n + 1) + i = omega arith in subst (λ (m : ℕ). kept_items (instead changes m y) ≡ kept_items (y ∷ [])) g (each (suc i) y at)))
    ∙ sym (filter-append is_kept (x ∷ []) items)

kept_front : (before : List Item) (x y : ℕ) (upper made : RuleParts) → slice_get before x ≡ Some (Rule upper) → kept_items (new_items (slots_from 0 (both x (Rule made ∷ []) (length before + y)) before)) ≡ kept_items before
kept_front before x y upper made at = kept_new (both x (Rule made ∷ []) (length before + y)) 0 before each
  where
    each : (i : ℕ) (item : Item) → slice_get before i ≡ Some item → kept_items (instead (both x (Rule made ∷ []) (length before + y)) (0 + i) item) ≡ kept_items (item ∷ [])
    each i item here =
        let e : i ≡ 0 + i = omega arith in
        let l : i < length before = slice_get_within before i item here in
        subst (λ (n : ℕ). kept_items (instead (both x (Rule made ∷ []) (length before + y)) n item) ≡ kept_items (item ∷ [])) e (which (x == i) refl l)
      where
        which : (b : Bool) → (x == i) ≡ b → i < length before → kept_items (instead (both x (Rule made ∷ []) (length before + y)) i item) ≡ kept_items (item ∷ [])
        which true h l =
            ap kept_items (cond-true (x == i) (Rule made ∷ []) (instead (record { at = length before + y; by = [] } ∷ []) i item) h)
            ∙ ap (λ (z : Item). kept_items (z ∷ [])) (let e : x ≡ i = (Decides-eqb x i).0 h in some-same (sym at ∙ ap (slice_get before) e ∙ here))
        which false h l = ap kept_items (cond-false (x == i) (Rule made ∷ []) (instead (record { at = length before + y; by = [] } ∷ []) i item) h ∙ cond-false (length before + y == i) [] (item ∷ []) (more_number (length before + y) i (omega (arith, l))))

pub kept_barriers_hinder : (before after : List Item) (y : ℕ) (lower : RuleParts) (p : Pair) (item : Item) → IsKeptBarrier before after y lower p item →
    (x : ℕ) (upper made : RuleParts) → slice_get before x ≡ Some (Rule upper) → Contains (selectors_of made) p.selector → Contains (decls_of made) p.decl →
    ReversesKept (before ++ after) (edited (moving_up before x y lower made) (before ++ after)) (whole_rule (length before + y) lower) p (length (kept_items before))
kept_barriers_hinder before after y lower p item barrier x upper made at hs hd = record {
  item = item;
  moved = (moved_is (whole_rule (length before + y) lower) p).1 (barrier.pair.selector_in, barrier.pair.decl_in);
  item_at = barrier.item_at;
  weighs = barrier.weighs;
  order = inr (barrier.behind, subst (λ (xs : List Item). IsBeforeKept xs p (length (kept_items before))) (sym (up_split before after x y made (slice_get_within before x (Rule upper) at))) before_it);
}
  where
    front : (q : Place) × IsLast (new_items (slots_from 0 (both x (Rule made ∷ []) (length before + y)) before)) p q
    front = last_of (new_items (slots_from 0 (both x (Rule made ∷ []) (length before + y)) before)) p (up_stands before x y upper made p at hs hd)

    before_it : IsBeforeKept (new_items (slots_from 0 (both x (Rule made ∷ []) (length before + y)) before) ++ remove after y) p (length (kept_items before))
    before_it =
        let l : LastBehind (new_items (slots_from 0 (both x (Rule made ∷ []) (length before + y)) before) ++ remove after y) p (kept_before front.0.item (new_items (slots_from 0 (both x (Rule made ∷ []) (length before + y)) before))) =
        (behind_in_two (new_items (slots_from 0 (both x (Rule made ∷ []) (length before + y)) before)) (remove after y) p (kept_before front.0.item (new_items (slots_from 0 (both x (Rule made ∷ []) (length before + y)) before)))).1
        (inr (barrier.nowhere_else, record { place = front.0; stands = front.1; number = refl })) in
        let m : kept_before front.0.item (new_items (slots_from 0 (both x (Rule made ∷ []) (length before + y)) before)) ≤ length (kept_items (new_items (slots_from 0 (both x (Rule made ∷ []) (length before + y)) before))) = kept_all (new_items (slots_from 0 (both x (Rule made ∷ []) (length before + y)) before)) front.0.item in
        let s : length (kept_items (new_items (slots_from 0 (both x (Rule made ∷ []) (length before + y)) before))) ≡ length (kept_items before) = ap length (kept_front before x y upper made at) in
        let r : kept_before l.place.item (new_items (slots_from 0 (both x (Rule made ∷ []) (length before + y)) before) ++ remove after y) ≤ length (kept_items before) = omega (arith, l.number, m, s) in
        record { place = l.place; stands = l.stands; before = r }
