-- Whether a step reverses a pair and a kept item, by its window.
use Rattle.std.proofs.Common.{◌≡◌, ◌↔◌, ◌⊎◌, ℕ, zero, suc, ◌+◌, ◌-◌, ◌<◌, ◌≤◌, Bool, true, false, not, ◌&&◌, List, [], ◌∷◌, ◌++◌, length, Some, None, take, drop, refl, sym, ap, ap₂, ◌∙◌, subst, inl, inr, arith}
use Rattle.std.specs.Bool.{beq}
use Rattle.std.specs.Prelude.{IsTrue, slice_get}
use Rattle.std.proofs.lemmas.Bool.{and_from, and_parts, false≢true, false_from_ne_true}
use Rattle.cascade_laws.proofs.ForCallers.{some-same}
use Rattle.css_model.specs.Cascade.Order.{Pair, IsBeforeKept}
use Rattle.css_model.specs.declared.sheet.Item.{Item}
use Rattle.css_model.specs.declared.sheet.Item.TheVariants.{Rule, KeptRule, KeptBlock}
use Rattle.css_model.specs.Sheets.KeptItems.{is_kept, kept_before, kept_items}
use Rattle.order_index.proofs.Turned as turning
use Rattle.order_index.specs.Afterwards.{after, edit_at, moves}
use Rattle.order_laws.specs.Comparing.{OrderIsDecided, WeighingIsDecided, comes_before_kept, weighs_kept}
use Rattle.order_laws.specs.Edits.{Edit}
use Rattle.order_laws.specs.Reversed.{is_reversed_kept}
use Rattle.order_laws.specs.Reversing.{Differ, ReversesKept}
use Rattle.sheet_order.proofs.ForCallers.{same_test}
use Rattle.step_laws.specs.declared.step.Step.{Step}
use Rattle.step_laws.specs.Steps.{IsStep, last_item}
use Rattle.step_obstacles.proofs.ForCallers.{WindowFacts, kept_at, kept_reversed_from, kept_reversed_to, kept_stands, kept_there, middle_same, number_of, window_facts}
use Rattle.step_obstacles.specs.StepWindow.{IsWindowFor}
use Rattle.plan_laws.specs.Window.StepWindows.{StepsHaveWindows, window_start, middle_start, first_left, first_part, last_left, last_part, middle_part}
use Rattle.plan_laws.specs.Window.Windows.{IsWindow, WindowsTellKept}
use Rattle.window_order.specs.declared.window.Window.{Window}
use Rattle.window_order.specs.Reversed.{IsKeptReversed, kept_number}

-- what does not weigh is not reversed
pub kept_not_weighing : (items items' : List Item) (p : Pair) (k : ℕ × Item) → weighs_kept p k.1 ≡ false → is_reversed_kept items items' p k ≡ false
kept_not_weighing items items' p k none = ap (λ (b : Bool). b && not (beq (comes_before_kept items p (kept_before k.0 items)) (comes_before_kept items' p (kept_before k.0 items)))) none

-- kept items before which as many are kept are one
kept_same : (items : List Item) (i j : ℕ) (x y : Item) → slice_get items i ≡ Some x → is_kept x ≡ true → slice_get items j ≡ Some y → is_kept y ≡ true → kept_before i items ≡ kept_before j items → i ≡ j
kept_same [] i j x y a kept b also e = absurd (let none : None ≡ Some x = a in cc)
kept_same (Rule r ∷ items) zero j x y a kept b also e = absurd (false≢true (ap is_kept (some-same a) ∙ kept))
kept_same (Rule r ∷ items) (suc i) zero x y a kept b also e = absurd (false≢true (ap is_kept (some-same b) ∙ also))
kept_same (Rule r ∷ items) (suc i) (suc j) x y a kept b also e = ap suc (kept_same items i j x y a kept b also e)
kept_same (KeptRule k ∷ items) zero zero x y a kept b also e = refl
kept_same (KeptRule k ∷ items) zero (suc j) x y a kept b also e = absurd (omega (arith, e))
kept_same (KeptRule k ∷ items) (suc i) zero x y a kept b also e = absurd (omega (arith, e))
kept_same (KeptRule k ∷ items) (suc i) (suc j) x y a kept b also e = ap suc (kept_same items i j x y a kept b also (omega (arith, e)))
kept_same (KeptBlock k ∷ items) zero zero x y a kept b also e = refl
kept_same (KeptBlock k ∷ items) zero (suc j) x y a kept b also e = absurd (omega (arith, e))
kept_same (KeptBlock k ∷ items) (suc i) zero x y a kept b also e = absurd (omega (arith, e))
kept_same (KeptBlock k ∷ items) (suc i) (suc j) x y a kept b also e = ap suc (kept_same items i j x y a kept b also (omega (arith, e)))

module _ (have : StepsHaveWindows) (tell : WindowsTellKept) (weighing : WeighingIsDecided) (order : OrderIsDecided) (items : List Item) (k : Step) (is : IsStep items k (edit_at items k)) (w : Window) (f : IsWindowFor items k (edit_at items k) w)
    (p : Pair) (moved : moves items k p ≡ true) (n : ℕ) (item : Item) (at : slice_get items n ≡ Some item) (kept : is_kept item ≡ true) where
  abbrev e : Edit
  e = edit_at items k

  abbrev items' : List Item
  items' = after items k

  abbrev within : List Item
  within = first_part items k ++ (middle_part items k ++ last_part items k)

  abbrev within' : List Item
  within' = first_left e.changes ++ (middle_part items k ++ last_left e.changes)

  abbrev above : List Item
  above = take (window_start k) items

  abbrev behind : List Item
  behind = drop (last_item k + 1) items

  abbrev number : ℕ
  number = kept_before n items

  window : IsWindow items items' e.moved above within within' behind
  window = have items k e is

  facts : WindowFacts items k e
  facts = window_facts items k e is

  abbrev test : Bool
  test = not (beq (comes_before_kept items p number) (comes_before_kept items' p number))

  differs : (test ≡ true) ↔ Differ (IsBeforeKept items p number) (IsBeforeKept items' p number)
  differs = turning.differ_is (comes_before_kept items p number) (comes_before_kept items' p number) (IsBeforeKept items p number) (IsBeforeKept items' p number) (order.1 items p number) (order.1 items' p number)

  -- what is reversed is reversed in the window
  within_is : is_reversed_kept items items' p (n, item) ≡ true → (w.start ≤ n) × (n ≤ w.last) × IsKeptReversed w p (kept_number w n)
  within_is h =
      let parts : (weighs_kept p item ≡ true) × (test ≡ true) = and_parts (weighs_kept p item) test h in
      let reverses : ReversesKept items items' e.moved p number = record { item = item; moved = moved; item_at = kept_at items n item at kept; weighs = (weighing.1 p item).0 parts.0; order = differs.0 parts.1 } in
      let t = (tell items items' e.moved above within within' behind window p number).0 reverses in
      let r : ReversesKept within within' e.moved p t.0 = t.2 in
      let there = kept_stands items k e facts t.0 r.item r.item_at in
      let n_is : kept_before (there.0 - middle_start k) (middle_part items k) ≡ t.0 = there.5 in
      let same_number : number ≡ kept_before there.0 items = t.1 ∙ ap (λ (m : ℕ). length (kept_items above) + m) (sym n_is) ∙ sym (number_of items k e facts there.0 there.1 there.2) in
      let same : n ≡ there.0 = kept_same items n there.0 item r.item at kept there.3 there.4 same_number in
      let low = there.1 in
      let high = there.2 in
      let start_is = f.start_is in
      let last_is = f.last_is in
      let start_first = facts.start_first in
      let told : t.0 ≡ kept_number w n =
      sym n_is ∙ ap (λ (m : ℕ). kept_before (m - middle_start k) (middle_part items k)) (sym same) ∙ ap₂ (λ (m : ℕ) (xs : List Item). kept_before (n - m) xs) (sym f.middle_is) (sym (middle_same items k e w f)) in
      (omega (arith, low, same, start_is, start_first), omega (arith, high, same, last_is), kept_reversed_to items k e w f p t.0 (kept_number w n) told r.order t.3)

  -- what lies outside is not
  pub kept_outside : (n < w.start) ⊎ (w.last < n) → is_reversed_kept items items' p (n, item) ≡ false
  kept_outside out = false_from_ne_true (is_reversed_kept items items' p (n, item)) (λ h. which (within_is h) out)
    where
      which : (w.start ≤ n) × (n ≤ w.last) × IsKeptReversed w p (kept_number w n) → (n < w.start) ⊎ (w.last < n) → ⊥
      which (low, high, r) (inl o) = absurd (omega (arith, low, o))
      which (low, high, r) (inr o) = absurd (omega (arith, high, o))

  -- the test of the window tells
  pub kept_turned_is : (t : Bool) → w.start ≤ n → n ≤ w.last → weighs_kept p item ≡ true → (p' : Pair) → p' ≡ p → (m : ℕ) → m ≡ n → IsTrue t ↔ IsKeptReversed w p' (kept_number w m) → t ≡ is_reversed_kept items items' p (n, item)
  kept_turned_is t low high weighs p' same m number_same told = same_test t (is_reversed_kept items items' p (n, item)) ahead (λ h. t_is.1 (within_is h).2)
    where
      t_is : IsTrue t ↔ IsKeptReversed w p (kept_number w n)
      t_is = subst (λ (x : Pair). IsTrue t ↔ IsKeptReversed w x (kept_number w n)) same (subst (λ (i : ℕ). IsTrue t ↔ IsKeptReversed w p' (kept_number w i)) number_same told)

      start_is : w.start ≡ window_start k
      start_is = f.start_is

      last_is : w.last ≡ last_item k
      last_is = f.last_is

      ahead : t ≡ true → is_reversed_kept items items' p (n, item) ≡ true
      ahead h =
          let between = facts.between n item at kept (omega (arith, low, start_is)) (omega (arith, high, last_is)) in
          let place : ℕ = kept_before (n - middle_start k) (middle_part items k) in
          let same : kept_number w n ≡ place = ap₂ (λ (i : ℕ) (xs : List Item). kept_before (n - i) xs) f.middle_is (middle_same items k e w f) in
          let r = kept_reversed_from items k e w f p place (subst (IsKeptReversed w p) same (t_is.0 h)) in
          let reverses : ReversesKept items items' e.moved p number =
          (tell items items' e.moved above within within' behind window p number).1
          (place, number_of items k e facts n between.0 between.1, record { item = item; moved = moved; item_at = kept_there items k e facts n item between.0 between.1 at kept; weighs = (weighing.1 p item).0 weighs; order = r.0 }, r.1) in
          and_from (weighs_kept p item) test weighs (differs.1 reverses.order)
