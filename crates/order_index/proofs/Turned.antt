-- Whether a step reverses two pairs, by its window.
use Rattle.std.proofs.Common.{◌≡◌, ◌↔◌, ◌+◌, Bool, true, false, not, ◌&&◌, List, ◌++◌, take, drop, refl, ap, subst, inl, inr}
use Rattle.std.specs.Bool.{beq}
use Rattle.std.specs.Prelude.{IsTrue}
use Rattle.std.proofs.lemmas.Bool.{and_from, and_parts, false≢true}
use Rattle.css_model.specs.Cascade.Order.{Pair, HasPair, IsBefore}
use Rattle.css_model.specs.declared.sheet.Item.{Item}
use Rattle.order_index.specs.Afterwards.{after, edit_at, moves}
use Rattle.order_laws.specs.Comparing.{OrderIsDecided, WeighingIsDecided, comes_before, weigh}
use Rattle.order_laws.specs.Edits.{Edit}
use Rattle.order_laws.specs.Reversed.{is_reversed}
use Rattle.order_laws.specs.Reversing.{Differ, ReversesPair}
use Rattle.sheet_order.proofs.ForCallers.{same_test}
use Rattle.step_laws.specs.declared.step.Step.{Step}
use Rattle.step_laws.specs.Steps.{IsStep, last_item}
use Rattle.step_obstacles.proofs.ForCallers.{reversed_from, reversed_to}
use Rattle.step_obstacles.specs.StepWindow.{IsWindowFor}
use Rattle.plan_laws.specs.Window.StepWindows.{StepsHaveWindows, window_start, first_left, first_part, last_left, last_part, middle_part}
use Rattle.plan_laws.specs.Window.Windows.{IsWindow, WindowsTellPairs}
use Rattle.window_order.specs.declared.window.Window.{Window}
use Rattle.window_order.specs.Reversed.{IsReversed}

-- two tests that answer otherwise
pub differ_is : (a b : Bool) (P Q : Type 0) → IsTrue a ↔ P → IsTrue b ↔ Q → (not (beq a b) ≡ true) ↔ Differ P Q
differ_is true true P Q f g = (λ h. absurd (false≢true h), back)
  where
    back : Differ P Q → not (beq true true) ≡ true
    back (inl d) = absurd (d.1 (g.0 refl))
    back (inr d) = absurd (d.0 (f.0 refl))
differ_is true false P Q f g = (λ h. inl (f.0 refl, λ q. absurd (false≢true (g.1 q))), λ d. refl)
differ_is false true P Q f g = (λ h. inr (λ p. absurd (false≢true (f.1 p)), g.0 refl), λ d. refl)
differ_is false false P Q f g = (λ h. absurd (false≢true h), back)
  where
    back : Differ P Q → not (beq false false) ≡ true
    back (inl d) = absurd (false≢true (f.1 d.0))
    back (inr d) = absurd (false≢true (g.1 d.1))

-- what does not weigh is not reversed
pub not_weighing : (items items' : List Item) (p q : Pair) → weigh p q ≡ false → is_reversed items items' p q ≡ false
not_weighing items items' p q none = ap (λ (b : Bool). b && not (beq (comes_before items p q) (comes_before items' p q))) none

module _ (have : StepsHaveWindows) (tell : WindowsTellPairs) (weighing : WeighingIsDecided) (order : OrderIsDecided) (items : List Item) (k : Step) (is : IsStep items k (edit_at items k)) where
  abbrev e : Edit
  e = edit_at items k

  abbrev items' : List Item
  items' = after items k

  abbrev within : List Item
  within = first_part items k ++ (middle_part items k ++ last_part items k)

  abbrev within' : List Item
  within' = first_left e.changes ++ (middle_part items k ++ last_left e.changes)

  abbrev above : List Item
  above = take (window_start k) items

  abbrev behind : List Item
  behind = drop (last_item k + 1) items

  pub window : IsWindow items items' e.moved above within within' behind
  window = have items k e is

  second_within : (p q : Pair) → Differ (IsBefore within p q) (IsBefore within' p q) → HasPair within q
  second_within p q (inl h) = (h.0.later, h.0.second.stands)
  second_within p q (inr h) = window.none_comes q (h.1.later, h.1.second.stands)

  differs : (p q : Pair) → (not (beq (comes_before items p q) (comes_before items' p q)) ≡ true) ↔ Differ (IsBefore items p q) (IsBefore items' p q)
  differs p q = differ_is (comes_before items p q) (comes_before items' p q) (IsBefore items p q) (IsBefore items' p q) (order.0 items p q) (order.0 items' p q)

  -- what is reversed is reversed in the window
  pub reversed_within : (p q : Pair) → moves items k p ≡ true → HasPair items q → is_reversed items items' p q ≡ true → ReversesPair within within' e.moved p q × (HasPair behind p → ⊥) × (HasPair behind q → ⊥)
  reversed_within p q moved there h =
      let w : (weigh p q ≡ true) × (not (beq (comes_before items p q) (comes_before items' p q)) ≡ true) = and_parts (weigh p q) (not (beq (comes_before items p q) (comes_before items' p q))) h in
      (tell items items' e.moved above within within' behind window p q).0 (record { moved = moved; there = there; weigh = (weighing.0 p q).0 w.0; order = (differs p q).0 w.1 })

  pub reversed_without : (p q : Pair) → moves items k p ≡ true → weigh p q ≡ true → Differ (IsBefore within p q) (IsBefore within' p q) → (HasPair behind p → ⊥) → (HasPair behind q → ⊥) → is_reversed items items' p q ≡ true
  reversed_without p q moved weighs order_differs first second =
      let r : ReversesPair items items' e.moved p q = (tell items items' e.moved above within within' behind window p q).1 (record { moved = moved; there = second_within p q order_differs; weigh = (weighing.0 p q).0 weighs; order = order_differs }, first, second) in
      and_from (weigh p q) (not (beq (comes_before items p q) (comes_before items' p q))) weighs ((differs p q).1 r.order)

  -- the test of the window tells
  pub turned_is : (w : Window) → IsWindowFor items k e w → (p q : Pair) (t : Bool) → moves items k p ≡ true → HasPair items q → weigh p q ≡ true → (p' q' : Pair) → p' ≡ p → q' ≡ q → IsTrue t ↔ IsReversed w p' q' →
      t ≡ is_reversed items items' p q
  turned_is w f p q t moved there weighs p' q' first second told = same_test t (is_reversed items items' p q) ahead back
    where
      t_is : IsTrue t ↔ IsReversed w p q
      t_is = subst (λ (x : Pair). IsTrue t ↔ IsReversed w x q) first (subst (λ (y : Pair). IsTrue t ↔ IsReversed w p' y) second told)

      ahead : t ≡ true → is_reversed items items' p q ≡ true
      ahead h = let r = reversed_from items k e w f p q (t_is.0 h) in reversed_without p q moved weighs r.0 r.1 r.2

      back : is_reversed items items' p q ≡ true → t ≡ true
      back h = let r = reversed_within p q moved there h in t_is.1 (reversed_to items k e w f p q r.0.order r.1 r.2)
