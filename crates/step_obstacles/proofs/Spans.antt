-- The items beside the receiver of a join by selectors are enough.
use Rattle.std.proofs.Common.{◌≡◌, ℕ, ◌+◌, ◌≤◌, true, List, [], ◌∷◌, Some, None, refl, sym, ap, ◌∙◌, arith}
use Rattle.std.specs.Prelude.{slice_get, slice_range}
use Rattle.std.specs.Borrow.{Bor}
use Rattle.css_model.specs.Cascade.Order.{Pair, HasPair, IsPairAt}
use Rattle.css_model.specs.declared.sheet.Item.{Item}
use Rattle.css_model.specs.declared.sheet.Item.TheVariants.{Rule, KeptRule, KeptBlock}
use Rattle.css_model.specs.Sheets.KeptItems.{is_kept}
use Rattle.css_model.specs.Sheets.RuleParts.{RuleParts}
use Rattle.order_laws.specs.Edits.{Edit}
use Rattle.sheet_order.specs.declared.places.Moved.TheVariants as moved
use Rattle.sheet_order.specs.Taking.{moved_of}
use Rattle.step_laws.specs.declared.step.Step.{Step}
use Rattle.step_laws.specs.declared.step.Step.TheVariants.{CutDecl, CutSel, JoinSelUp, JoinSelDown, JoinDeclUp, JoinDeclDown, Share}
use Rattle.step_laws.specs.Steps.{HasStep, IsStep, last_item}
use Rattle.step_obstacles.proofs.Deciding.{of_one, pair_of_number, reversed_from}
use Rattle.step_obstacles.proofs.KeptPlaces.{range_at}
use Rattle.step_obstacles.proofs.Moving.{are_moving}
use Rattle.step_obstacles.proofs.WindowFacts.{WindowFacts, window_facts}
use Rattle.step_obstacles.specs.Blocked.{Crosses}
use Rattle.step_obstacles.specs.declared.facing.Source.{Source}
use Rattle.step_obstacles.specs.declared.window_search.Span.{Span}
use Rattle.step_obstacles.specs.Spans.{IsEnough, IsEnoughFor, IsWithin, OfSpan}
use Rattle.step_obstacles.specs.StepWindow.{AreMoving, IsWindowFor}
use Rattle.step_obstacles.specs.Turns.{OfSources, OfWindow}
use Rattle.plan_laws.specs.Barrier.Hindering.{OfPair, OfKept}
use Rattle.plan_laws.specs.Window.Beside.{ReversedStandBeside, beside_first, beside_end, beside_part}
use Rattle.plan_laws.specs.Window.StepWindows.{window_start, middle_start}
use Rattle.window_order.specs.declared.window.Window.{Window}

-- ---- The numbers

record Numbers (k : Step) : Type 0 where
  pub above : window_start k ≤ beside_first k
  pub order : beside_first k ≤ beside_end k
  pub below : beside_end k ≤ last_item k + 1
  pub middle : beside_first k ≤ middle_start k
  pub last : last_item k ≤ beside_end k

numbers : (items : List Item) (k : Step) (e : Edit) → IsStep items k e → Numbers k
numbers items (CutDecl n i) e is = record { above = omega arith; order = omega arith; below = omega arith; middle = omega arith; last = omega arith }
numbers items (CutSel n i) e is = record { above = omega arith; order = omega arith; below = omega arith; middle = omega arith; last = omega arith }
numbers items (JoinSelUp x y) e is = let less = is.rules.in_order in record { above = omega arith; order = omega (arith, less); below = omega arith; middle = omega arith; last = omega arith }
numbers items (JoinSelDown x y) e is = let less = is.rules.in_order in record { above = omega arith; order = omega (arith, less); below = omega arith; middle = omega arith; last = omega arith }
numbers items (JoinDeclUp x y) e is = let less = is.rules.in_order in record { above = omega arith; order = omega (arith, less); below = omega arith; middle = omega arith; last = omega arith }
numbers items (JoinDeclDown x y) e is = let less = is.rules.in_order in record { above = omega arith; order = omega (arith, less); below = omega arith; middle = omega arith; last = omega arith }
numbers items (Share x y) e is = let less = is.rules.in_order in record { above = omega arith; order = omega (arith, less); below = omega arith; middle = omega arith; last = omega arith }

-- no kept item is one of a rule
no_rule : (list : List Item) (n : ℕ) (r : RuleParts) (sources : List Source) (p : Pair) (number : ℕ) → OfSources list n (Rule r) sources (OfKept p number) → ⊥
no_rule list n r sources p number (s, s_in, (x, x_in, (common, (g, g_in, (y, y_in, (z, z_in, e)))))) = let f = e in cc

-- ---- What crosses is met there

module _ (items : List Item) (k : Step) (e : Edit) (is : IsStep items k e) (w : Window) (f : IsWindowFor items k e w) (s : Span) (first_is : s.first ≡ beside_first k) (end_is : s.end ≡ beside_end k) where
  of : Numbers k
  of = numbers items k e is

  facts : WindowFacts items k e
  facts = window_facts items k e is

  lies_within : IsWithin w s
  lies_within =
      let above = of.above in
      let order = of.order in
      let below = of.below in
      let start_is = f.start_is in
      let last_is = f.last_is in
      record { above = omega (arith, above, start_is, first_is); order = omega (arith, order, first_is, end_is); below = omega (arith, below, last_is, end_is) }

  module _ (beside : ReversedStandBeside) (sources : List Source) (moving : AreMoving items k sources) where
    meets_pair : (p q : Pair) → OfWindow w sources (OfPair p q) → Crosses w (OfPair p q) → OfSpan w s sources (OfPair p q)
    meets_pair p q of_window crosses =
        let one = of_one w sources (OfPair p q) of_window in
        let h : HasPair (beside_part items k) q = beside items k e is p q ((moving e is p).1 one) (reversed_from items k e w f p q crosses.1).0 in
        let at : IsPairAt (slice_range items (beside_first k) (beside_end k)) q h.0 = h.1 in
        let there = range_at items (beside_first k) (beside_end k) h.0.item (Rule at.rule) of.order at.rule_at in
        let less = there.1 in (
          beside_first k + h.0.item,
          omega (arith, first_is),
          omega (arith, less, end_is),
          pair_of_number w sources p one q (beside_first k + h.0.item) h.0.position at.rule at.decl (ap (λ xs. slice_get xs (beside_first k + h.0.item)) f.items_are ∙ there.0) at.selector_in at.decl_at at.decl_is,
        )

    meets_kept : (p : Pair) (number : ℕ) → OfWindow w sources (OfKept p number) → OfSpan w s sources (OfKept p number)
    meets_kept p number (n, above, below, (item, at, of_sources)) = which item at of_sources
      where
        kept : (i : Item) → is_kept i ≡ true → slice_get w.items.now n ≡ Some i → OfSources w.items.now n i sources (OfKept p number) → OfSpan w s sources (OfKept p number)
        kept i kept_is there sources_of =
            let start_is = f.start_is in
            let last_is = f.last_is in
            let low = facts.between n i (ap (λ xs. slice_get xs n) (sym f.items_are) ∙ there) kept_is (omega (arith, above, start_is)) (omega (arith, below, last_is)) in
            let down = low.0 in
            let up = low.1 in
            let middle = of.middle in
            let last = of.last in
            (n, omega (arith, down, middle, first_is), omega (arith, up, last, end_is), (i, there, sources_of))

        which : (i : Item) → slice_get w.items.now n ≡ Some i → OfSources w.items.now n i sources (OfKept p number) → OfSpan w s sources (OfKept p number)
        which (Rule r) there sources_of = absurd (no_rule w.items.now n r sources p number sources_of)
        which (KeptRule q) there sources_of = kept (KeptRule q) refl there sources_of
        which (KeptBlock piece) there sources_of = kept (KeptBlock piece) refl there sources_of

    are_enough : IsEnough w s sources
    are_enough (OfPair p q) of_window crosses = meets_pair p q of_window crosses
    are_enough (OfKept p number) of_window crosses = meets_kept p number of_window

-- ---- Of a step

module _ (items : List Item) (k : Step) (has : HasStep items k) (w : Window) (f : (e : Edit) → IsStep items k e → IsWindowFor items k e w) (s : Span) (first_is : s.first ≡ beside_first k) (end_is : s.end ≡ beside_end k) where
  pub span_within : IsWithin w s
  span_within = lies_within items k has.0 has.1 w (f has.0 has.1) s first_is end_is

  pub span_is_enough : ReversedStandBeside → IsEnoughFor items (moved_of k) w s
  span_is_enough beside sources are = are_enough items k has.0 has.1 w (f has.0 has.1) s first_is end_is beside sources (are_moving items k sources are)

-- ---- Of rules that are moved

pub enough_whole : (items : List Item) (w : Window) (s : Span) (n : ℕ) (r : Source) → IsEnoughFor items (moved.Rule n) w s → r.with ≡ None → slice_get items n ≡ Some (Rule r.rule.now) → IsEnough w s (r ∷ [])
enough_whole items w s n r enough with at = enough (r ∷ []) (record { source = r; are = refl; with = with; rule_at = at })

pub enough_common : (items : List Item) (w : Window) (s : Span) (x y : ℕ) (above below : Source) → IsEnoughFor items (moved.Common x y) w s →
    ((r : Bor RuleParts) × (above.with ≡ Some r) × (slice_get items y ≡ Some (Rule r.now))) → ((r : Bor RuleParts) × (below.with ≡ Some r) × (slice_get items x ≡ Some (Rule r.now))) →
    slice_get items x ≡ Some (Rule above.rule.now) → slice_get items y ≡ Some (Rule below.rule.now) → IsEnough w s (above ∷ below ∷ [])
enough_common items w s x y above below enough a b above_at below_at =
    enough (above ∷ below ∷ []) (record { upper = above; lower = below; are = refl; upper_with = a; lower_with = b; upper_at = above_at; lower_at = below_at })
