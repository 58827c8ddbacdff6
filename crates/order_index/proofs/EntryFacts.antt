-- What a step reverses: the entries, and what each says.
use Rattle.std.proofs.Common.{◌≡◌, ◌↔◌, ◌⊎◌, ℕ, ◌<◌, ◌≤◌, Bool, true, not, List, Some, sym, ap, ◌∙◌, subst, inl, inr, arith}
use Rattle.std.specs.Bool.{beq}
use Rattle.std.specs.Prelude.{bit_and, slice_get}
use Rattle.std.specs.List.{Contains}
use Rattle.std.proofs.lemmas.Bool.{and_from, and_parts, false≢true}
use Rattle.std.proofs.lemmas.Bool.Decides.{nat_tests}
use Rattle.cascade_laws.proofs.ForCallers.{some-same}
use Rattle.css_model.specs.Cascade.Order.{IsBefore, IsBeforeKept, Pair, WeighsKept}
use Rattle.css_model.specs.declared.sheet.Decl.{Decl}
use Rattle.css_model.specs.declared.sheet.Item.{Item}
use Rattle.css_model.specs.declared.sheet.Item.TheVariants.{Rule}
use Rattle.css_model.specs.Cascade.Family.{Related}
use Rattle.css_model.specs.Sheets.KeptItems.{is_kept, kept_before}
use Rattle.css_model.specs.Sheets.RuleParts.{RuleParts}
use Rattle.list_facts.proofs.Elements.{member}
use Rattle.list_facts.proofs.Members.{Contains-filter, Contains-filtered}
use Rattle.order_index.proofs.Around.{listed_stands, member_at, not_above, not_behind}
use Rattle.order_index.proofs.MovedMasks.{masks_put}
use Rattle.order_index.proofs.Turned.{differ_is}
use Rattle.order_index.proofs.TurnedKept.{kept_outside}
use Rattle.order_index.specs.Afterwards.{after, edit_at}
use Rattle.order_index.specs.Listed.{IsMoving}
use Rattle.order_index.specs.Told.{moved_by, reversed_by}
use Rattle.order_index.specs.Walked.{with_masks}
use Rattle.order_laws.specs.Comparing.{OrderIsDecided, WeighingIsDecided, comes_before, comes_before_kept, weigh, weighs_kept}
use Rattle.order_laws.specs.Edits.{Edit, is_moved}
use Rattle.order_laws.specs.Members.{has_number}
use Rattle.order_laws.specs.Places.{ListedStandsLast, PlacedPair, StandsLast, last_pairs, last_pairs_from}
use Rattle.order_laws.specs.Reversed.{AnotherPair, IsReversedWith, KeptAt, ListedIsReversed, Other, Reversal, is_reversed, is_reversed_kept, other_place, with_pair}
use Rattle.order_laws.specs.Reversing.{Differ}
use Rattle.plan_laws.specs.Window.StepWindows.{StepsHaveWindows}
use Rattle.plan_laws.specs.Window.Windows.{WindowsTellKept, WindowsTellPairs}
use Rattle.related_props.proofs.ForCallers.{kept_shows, related_shows}
use Rattle.related_props.specs.Masks.{IsWithin, decl_mask, item_mask}
use Rattle.selector_laws.specs.Limits.{KeepsLimits, ReadSelectorsKeepTheLimits}
use Rattle.sheet_order.proofs.ForCallers.{moved_limited, planned_limited}
use Rattle.sheet_order.specs.Narrow.{CanBePlanned}
use Rattle.step_laws.specs.declared.step.Step.{Step}
use Rattle.step_laws.specs.Steps.{IsStep}
use Rattle.step_obstacles.proofs.ForCallers.{kept_at}
use Rattle.step_obstacles.specs.StepWindow.{IsWindowFor}
use Rattle.window_order.specs.declared.window.Window.{Window}

module _ (listed : ListedIsReversed) (stands : ListedStandsLast) (items : List Item) (k : Step) where
  abbrev e : Edit
  e = edit_at items k

  abbrev items' : List Item
  items' = after items k

  other_moved : (p : Pair) (o : Other) → IsReversedWith items items' e.moved p o → is_moved e.moved p ≡ true
  other_moved p (AnotherPair q) is = is.1.moved
  other_moved p (KeptAt n) is = is.3.moved

  -- the moved pair of an entry is moved
  pub moved_of_entry : (r : Reversal) → Contains (reversed_by items k) r → Contains (moved_by items k) r.moved
  moved_of_entry r there =
      let w = (listed items items' e.moved r).0 there in
      Contains-filtered (λ p. is_moved e.moved p.pair) (last_pairs_from (has_number e.moved.out_of) 0 items) r.moved ((stands (has_number e.moved.out_of) items r.moved).1 w.0) (other_moved r.moved.pair r.other w.1)

  abbrev MovedPlace : PlacedPair → Type 0
  MovedPlace p = StandsLast (has_number e.moved.out_of) items p × (is_moved e.moved p.pair ≡ true)

  moved_stands : (p : PlacedPair) → Contains (moved_by items k) p → MovedPlace p
  moved_stands p there =
      let f = Contains-filter (λ q. is_moved e.moved q.pair) (last_pairs_from (has_number e.moved.out_of) 0 items) p there in
      ((stands (has_number e.moved.out_of) items p).0 f.0, f.1)

  pub moved_is_moving : ReadSelectorsKeepTheLimits → CanBePlanned items → (p : PlacedPair) → Contains (moved_by items k) p → IsMoving items k p
  moved_is_moving limits planned p there = record {
    limited = member (λ q. KeepsLimits q.pair.selector) (moved_by items k) p (moved_limited stands items e.moved (planned_limited limits items planned)) there;
    moved = (moved_stands p there).1;
  }

  pub moved_out_of : (r : Reversal) → Contains (reversed_by items k) r → has_number e.moved.out_of r.moved.place.item ≡ true
  moved_out_of r there = ((listed items items' e.moved r).0 there).0.counted

  -- of another pair there is a rule in its item
  pub pair_rule : (p q : PlacedPair) → Contains (reversed_by items k) (with_pair p q) → (r : RuleParts) × (slice_get items q.place.item ≡ Some (Rule r))
  pair_rule p q there = let w = (listed items items' e.moved (with_pair p q)).0 there in (w.1.0.rule, w.1.0.rule_at)

  module _ (weighing : WeighingIsDecided) (order : OrderIsDecided) where
    abbrev pair_test : Pair → Pair → Bool
    pair_test p q = not (beq (comes_before items p q) (comes_before items' p q))

    abbrev kept_test : Pair → ℕ → Bool
    kept_test p n = not (beq (comes_before_kept items p n) (comes_before_kept items' p n))

    differs : (p q : Pair) → (pair_test p q ≡ true) ↔ Differ (IsBefore items p q) (IsBefore items' p q)
    differs p q = differ_is (comes_before items p q) (comes_before items' p q) (IsBefore items p q) (IsBefore items' p q) (order.0 items p q) (order.0 items' p q)

    differs_kept : (p : Pair) (n : ℕ) → (kept_test p n ≡ true) ↔ Differ (IsBeforeKept items p n) (IsBeforeKept items' p n)
    differs_kept p n = differ_is (comes_before_kept items p n) (comes_before_kept items' p n) (IsBeforeKept items p n) (IsBeforeKept items' p n) (order.1 items p n) (order.1 items' p n)

    -- two pairs that are an entry are reversed, and the second is a last one
    pub pair_of_entry : (p q : PlacedPair) → Contains (reversed_by items k) (with_pair p q) → Contains (last_pairs items) q × (is_reversed items items' p.pair q.pair ≡ true)
    pair_of_entry p q there =
        let w = (listed items items' e.moved (with_pair p q)).0 there in
        let r = w.1.1 in
        ((stands (λ n. true) items q).1 w.1.0, and_from (weigh p.pair q.pair) (pair_test p.pair q.pair) ((weighing.0 p.pair q.pair).1 r.weigh) ((differs p.pair q.pair).1 r.order))

    pub pair_is_entry : (p q : PlacedPair) → Contains (moved_by items k) p → Contains (last_pairs items) q → is_reversed items items' p.pair q.pair ≡ true → Contains (reversed_by items k) (with_pair p q)
    pair_is_entry p q first second h =
        let parts : (weigh p.pair q.pair ≡ true) × (pair_test p.pair q.pair ≡ true) = and_parts (weigh p.pair q.pair) (pair_test p.pair q.pair) h in
        let f : MovedPlace p = moved_stands p first in
        (listed items items' e.moved (with_pair p q)).1
        (f.0, ((stands (λ n. true) items q).0 second, record { moved = f.1; there = listed_stands stands items q second; weigh = (weighing.0 p.pair q.pair).0 parts.0; order = (differs p.pair q.pair).0 parts.1 }))

    -- so a pair and a kept item
    pub kept_of_entry : (p : PlacedPair) (n : ℕ) → Contains (reversed_by items k) (record { moved = p; other = KeptAt n }) →
        (item : Item) × (slice_get items n ≡ Some item) × (is_kept item ≡ true) × (is_reversed_kept items items' p.pair (n, item) ≡ true)
    kept_of_entry p n there =
        let w = (listed items items' e.moved (record { moved = p; other = KeptAt n })).0 there in
        let item : Item = w.1.0 in
        let r = w.1.3 in
        let same : r.item ≡ item = some-same (sym r.item_at ∙ kept_at items n item w.1.1 w.1.2) in
        (item, w.1.1, w.1.2, and_from (weighs_kept p.pair item) (kept_test p.pair (kept_before n items)) ((weighing.1 p.pair item).1 (subst (WeighsKept p.pair) same r.weighs)) ((differs_kept p.pair (kept_before n items)).1 r.order))

    pub kept_is_entry : (p : PlacedPair) (n : ℕ) (item : Item) → Contains (moved_by items k) p → slice_get items n ≡ Some item → is_kept item ≡ true → is_reversed_kept items items' p.pair (n, item) ≡ true →
        Contains (reversed_by items k) (record { moved = p; other = KeptAt n })
    kept_is_entry p n item first at kept h =
        let parts : (weighs_kept p.pair item ≡ true) × (kept_test p.pair (kept_before n items) ≡ true) = and_parts (weighs_kept p.pair item) (kept_test p.pair (kept_before n items)) h in
        let f : MovedPlace p = moved_stands p first in
        (listed items items' e.moved (record { moved = p; other = KeptAt n })).1
        (f.0, (item, at, kept, record { item = item; moved = f.1; item_at = kept_at items n item at kept; weighs = (weighing.1 p.pair item).0 parts.0; order = (differs_kept p.pair (kept_before n items)).0 parts.1 }))

    -- an entry is in the window
    pub entry_within : StepsHaveWindows → WindowsTellPairs → WindowsTellKept → IsStep items k e → (w : Window) → IsWindowFor items k e w → (r : Reversal) → Contains (reversed_by items k) r →
        (w.start ≤ (other_place r.other).item) × ((other_place r.other).item ≤ w.last)
    entry_within have tell_pairs tell_kept is w f r there = which r.moved r.other there
      where
        either : (m n : ℕ) → (m ≤ n) ⊎ (n < m)
        either m n = grind (arith, nat_tests)

        not_less : (m n : ℕ) → (m ≤ n) ⊎ (n < m) → (n < m → ⊥) → m ≤ n
        not_less m n (inl h) out = h
        not_less m n (inr h) out = absurd (out h)

        which : (p : PlacedPair) (o : Other) → Contains (reversed_by items k) (record { moved = p; other = o }) → (w.start ≤ (other_place o).item) × ((other_place o).item ≤ w.last)
        which p (AnotherPair q) g =
            let h = pair_of_entry p q g in
            let moved = (moved_stands p (moved_of_entry (with_pair p q) g)).1 in
            let start_is = f.start_is in
            let last_is = f.last_is in (
              not_less w.start q.place.item (either w.start q.place.item) (λ low. not_above stands have tell_pairs weighing order items k is p.pair q moved h.0 h.1 (omega (arith, low, start_is))),
              not_less q.place.item w.last (either q.place.item w.last) (λ high. not_behind stands have tell_pairs weighing order items k is p.pair q moved h.0 h.1 (omega (arith, high, last_is))),
            )
        which p (KeptAt n) g =
            let h = kept_of_entry p n g in
            let moved = (moved_stands p (moved_of_entry (record { moved = p; other = KeptAt n }) g)).1 in
            let out : (n < w.start) ⊎ (w.last < n) → ⊥ = λ o. false≢true (sym (kept_outside have tell_kept weighing order items k is w f p.pair moved n h.0 h.1 h.2 o) ∙ h.3) in
            (not_less w.start n (either w.start n) (λ low. out (inl low)), not_less n w.last (either n w.last) (λ high. out (inr high)))

  -- no entry is with an item whose mask has no bit of what is moved
  pub none_masked : (mask : ℕ) → mask ≡ with_masks 0 (moved_by items k) → (n : ℕ) (item : Item) → slice_get items n ≡ Some item → bit_and mask (item_mask item) ≡ 0 → (r : Reversal) → Contains (reversed_by items k) r → (other_place r.other).item ≡ n → ⊥
  none_masked mask is n item at none r there same = which r.moved r.other there same
    where
      within : (p : PlacedPair) → Contains (moved_by items k) p → IsWithin (decl_mask p.pair.decl) mask
      within p inside = subst (IsWithin (decl_mask p.pair.decl)) (sym is) (masks_put 0 (moved_by items k) p inside)

      which : (p : PlacedPair) (o : Other) → Contains (reversed_by items k) (record { moved = p; other = o }) → (other_place o).item ≡ n → ⊥
      which p (AnotherPair q) g e_is =
          let w = (listed items items' e.moved (with_pair p q)).0 g in
          let s = w.1.0 in
          let item_is : Rule s.rule ≡ item = some-same (sym s.rule_at ∙ ap (slice_get items) e_is ∙ at) in
          related_shows p.pair.decl mask s.rule s.item (within p (moved_of_entry (with_pair p q) g)) (member_at s.rule.decls q.place.decl s.item s.decl_at)
          (subst (λ (d : Decl). Related p.pair.decl.name d.name) (sym s.decl_is) w.1.1.weigh.names) (ap (λ (x : Item). bit_and mask (item_mask x)) item_is ∙ none)
      which p (KeptAt m) g e_is =
          let w = (listed items items' e.moved (record { moved = p; other = KeptAt m })).0 g in
          let r_kept = w.1.3 in
          let item_same : w.1.0 ≡ item = some-same (sym w.1.1 ∙ ap (slice_get items) e_is ∙ at) in
          let weighs_same : r_kept.item ≡ w.1.0 = some-same (sym r_kept.item_at ∙ kept_at items m w.1.0 w.1.1 w.1.2) in
          kept_shows p.pair mask item (within p (moved_of_entry (record { moved = p; other = KeptAt m }) g)) (subst (WeighsKept p.pair) (weighs_same ∙ item_same) r_kept.weighs) none
