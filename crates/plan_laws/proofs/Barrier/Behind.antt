-- Steps of other rules, behind a step.
use Rattle.std.proofs.Common.{◌≡◌, ◌↔◌, ◌⊎◌, ℕ, ◌<◌, ◌≤◌, false, List, length, Some, refl, sym, ap, ◌∙◌, subst, inl, inr, arith}
use Rattle.std.specs.Prelude.{slice_get}
use Rattle.css_model.specs.declared.sheet.Item.{Item}
use Rattle.css_model.specs.declared.sheet.Item.TheVariants.{Rule}
use Rattle.css_model.specs.Cascade.Order.{Pair, HasPair, IsLast, IsBefore, IsBeforeKept}
use Rattle.css_model.specs.Cascade.Winner.{Place}
use Rattle.css_model.specs.Sheets.KeptItems.{kept_before}
use Rattle.css_model.specs.Sheets.Limits.{max_items}
use Rattle.css_model.specs.Sheets.RuleParts.{RuleParts}
use Rattle.css_model.specs.Sheets.StyleRule.{HaveSameSelectors}
use Rattle.order_laws.specs.Edits.{is_moved, Edit, edited}
use Rattle.order_laws.specs.Reversing.{Differ, ReversesPair, ReversesKept, UnmovedKeepTheirOrder}
use Rattle.order_laws.proofs.ForCallers.{last_of}
use Rattle.step_laws.specs.declared.step.Step.{Step}
use Rattle.step_laws.specs.declared.step.Step.TheVariants.{CutDecl, CutSel, JoinSelUp, JoinSelDown, JoinDeclUp, JoinDeclDown, Share}
use Rattle.step_laws.specs.StepEdits.{AreRules, join_selectors_up, join_selectors_down, join_decls_up, join_decls_down, share}
use Rattle.step_laws.specs.Steps.{HaveSameDecls, AreDeclsAmong, MayShare, IsJoin, IsStep}
use Rattle.plan_laws.specs.Barrier.Renumbering.{Leaves, new_number, renumbered_edit, renumbered, IsOfOthers, IsOfTwo, AreSideBySide}
use Rattle.plan_laws.proofs.Barrier.Renumbers.{items_stay, numbers_ascend, edits_commute}

-- ---- Joins

module _ (items : List Item) (d : Edit) where
  rules_stay : (x y : ℕ) (upper lower : RuleParts) → Leaves d x → Leaves d y → AreRules items x y upper lower → AreRules (edited d items) (new_number d items x) (new_number d items y) upper lower
  rules_stay x y upper lower first second rules = record {
    upper_at = items_stay d items x (Rule upper) first rules.upper_at;
    lower_at = items_stay d items y (Rule lower) second rules.lower_at;
    in_order = numbers_ascend d items x y (Rule upper) first rules.upper_at rules.in_order;
  }

  join_stays : (x y : ℕ) (May May' : RuleParts → RuleParts → Type 0) (edit edit' : RuleParts → RuleParts → Edit) → Leaves d x → Leaves d y → ((u l : RuleParts) → May u l → May' u l) →
      ((u l : RuleParts) → renumbered_edit (new_number d items) (edit u l) ≡ edit' u l) → (e : Edit) → IsJoin items x y May edit e →
      IsJoin (edited d items) (new_number d items x) (new_number d items y) May' edit' (renumbered_edit (new_number d items) e)
  join_stays x y May May' edit edit' first second may same e j = record {
    upper = j.upper;
    lower = j.lower;
    rules = rules_stay x y j.upper j.lower first second j.rules;
    may = may j.upper j.lower j.may;
    is = ap (renumbered_edit (new_number d items)) j.is ∙ same j.upper j.lower;
  }

  share_may : (length (edited d items) ≤ length items) ⊎ (length (edited d items) < max_items) → (u l : RuleParts) → MayShare items u l → MayShare (edited d items) u l
  share_may room u l m = record { common = m.common; other_decls = m.other_decls; other_selectors = m.other_selectors; room = which room m.room }
    where
      which : (length (edited d items) ≤ length items) ⊎ (length (edited d items) < max_items) → AreDeclsAmong u l ⊎ AreDeclsAmong l u ⊎ (length items < max_items) →
          AreDeclsAmong u l ⊎ AreDeclsAmong l u ⊎ (length (edited d items) < max_items)
      which r (inl h) = inl h
      which r (inr (inl h)) = inr (inl h)
      which (inl fewer) (inr (inr h)) = inr (inr (omega (arith, fewer, h)))
      which (inr few) (inr (inr h)) = inr (inr few)

pub joins_stay : (items : List Item) (d : Edit) (k : Step) (e : Edit) → IsOfTwo k → IsOfOthers d k → (length (edited d items) ≤ length items) ⊎ (length (edited d items) < max_items) →
    IsStep items k e → IsStep (edited d items) (renumbered (new_number d items) k) (renumbered_edit (new_number d items) e)
joins_stay items d (CutDecl n i) e two others room is = absurd two
joins_stay items d (CutSel n i) e two others room is = absurd two
joins_stay items d (JoinSelUp x y) e two others room j = join_stays items d x y HaveSameSelectors HaveSameSelectors (join_selectors_up x y) (join_selectors_up (new_number d items x) (new_number d items y)) others.0 others.1 (λ u l m. m) (λ u l. refl) e j
joins_stay items d (JoinSelDown x y) e two others room j = join_stays items d x y HaveSameSelectors HaveSameSelectors (join_selectors_down x y) (join_selectors_down (new_number d items x) (new_number d items y)) others.0 others.1 (λ u l m. m) (λ u l. refl) e j
joins_stay items d (JoinDeclUp x y) e two others room j = join_stays items d x y HaveSameDecls HaveSameDecls (join_decls_up x y) (join_decls_up (new_number d items x) (new_number d items y)) others.0 others.1 (λ u l m. m) (λ u l. refl) e j
joins_stay items d (JoinDeclDown x y) e two others room j = join_stays items d x y HaveSameDecls HaveSameDecls (join_decls_down x y) (join_decls_down (new_number d items x) (new_number d items y)) others.0 others.1 (λ u l m. m) (λ u l. refl) e j
joins_stay items d (Share x y) e two others room j = join_stays items d x y (MayShare items) (MayShare (edited d items)) (share x y) (share (new_number d items x) (new_number d items y)) others.0 others.1 (share_may items d room) (λ u l. refl) e j

-- ---- What hinders

differ : {P P' Q Q' : Type 0} → P ↔ P' → Q ↔ Q' → Differ P Q → Differ P' Q'
differ f g (inl (h, none)) = inl (f.0 h, λ k. none (g.1 k))
differ f g (inr (none, h)) = inr (λ k. none (f.1 k), g.0 h)

module _ (law : UnmovedKeepTheirOrder) (items : List Item) (d e : Edit) (both : AreSideBySide items d e) where
  -- a pair that the first edit does not move stands behind it
  stands_on : (q : Pair) → is_moved d.moved q ≡ false → HasPair items q → HasPair (edited d items) q
  stands_on q still has =
      let w : (x : Place) × IsLast items q x = last_of items q has in
      let b : IsBeforeKept items q (kept_before w.0.item items) = record { place = w.0; stands = w.1; before = omega arith } in
      let c : IsBeforeKept (edited d items) q (kept_before w.0.item items) = ((law items d both.first).1 q (kept_before w.0.item items) still).0 b in
      (c.place, c.stands.stands)

  commute : edited (renumbered_edit (new_number e items) d) (edited e items) ≡ edited (renumbered_edit (new_number d items) e) (edited d items)
  commute = sym (edits_commute items d e both.others)

  order_on : (p q : Pair) → is_moved d.moved p ≡ false → is_moved d.moved q ≡ false → IsBefore (edited e items) p q ↔ IsBefore (edited (renumbered_edit (new_number d items) e) (edited d items)) p q
  order_on p q still other = subst (λ (xs : List Item). IsBefore (edited e items) p q ↔ IsBefore xs p q) commute ((law (edited e items) (renumbered_edit (new_number e items) d) both.second).0 p q still other)

  kept_order_on : (p : Pair) (number : ℕ) → is_moved d.moved p ≡ false → IsBeforeKept (edited e items) p number ↔ IsBeforeKept (edited (renumbered_edit (new_number d items) e) (edited d items)) p number
  kept_order_on p number still = subst (λ (xs : List Item). IsBeforeKept (edited e items) p number ↔ IsBeforeKept xs p number) commute ((law (edited e items) (renumbered_edit (new_number e items) d) both.second).1 p number still)

pub hindrances_go_on : UnmovedKeepTheirOrder → (items : List Item) (d e : Edit) → AreSideBySide items d e → (p q : Pair) → is_moved d.moved p ≡ false → is_moved d.moved q ≡ false →
    ReversesPair items (edited e items) e.moved p q →
    ReversesPair (edited d items) (edited (renumbered_edit (new_number d items) e) (edited d items)) (renumbered_edit (new_number d items) e).moved p q
hindrances_go_on law items d e both p q still other reverses = record {
  moved = reverses.moved;
  there = stands_on law items d e both q other reverses.there;
  weigh = reverses.weigh;
  order = differ ((law items d both.first).0 p q still other) (order_on law items d e both p q still other) reverses.order;
}

pub kept_hindrances_go_on : UnmovedKeepTheirOrder → (items : List Item) (d e : Edit) → AreSideBySide items d e → (p : Pair) (number : ℕ) → is_moved d.moved p ≡ false →
    ReversesKept items (edited e items) e.moved p number →
    ReversesKept (edited d items) (edited (renumbered_edit (new_number d items) e) (edited d items)) (renumbered_edit (new_number d items) e).moved p number
kept_hindrances_go_on law items d e both p number still reverses = record {
  item = reverses.item;
  moved = reverses.moved;
  item_at = subst (λ (xs : List Item). slice_get xs number ≡ Some reverses.item) (law items d both.first).2 reverses.item_at;
  weighs = reverses.weighs;
  order = differ ((law items d both.first).1 p number still) (kept_order_on law items d e both p number still) reverses.order;
}
