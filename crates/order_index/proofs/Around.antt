-- The pairs around a step: those that stand last in its window.
use Rattle.std.proofs.Common.{◌≡◌, ℕ, ◌+◌, ◌-◌, ◌<◌, Bool, true, false, List, Some, take, drop, refl, sym, ap, ◌∙◌, subst, inl, arith}
use Rattle.std.specs.Prelude.{nat_le, nat_lt, slice_get}
use Rattle.std.specs.List.{AllByRecursion, Contains, filter, prefix_len}
use Rattle.std.specs.List.Sorted.{IsNonDecreasingBy}
use Rattle.std.proofs.lemmas.Bool.{false_from_ne_true, ltb-true}
use Rattle.std.proofs.lemmas.List.Sorted.{IsNonDecreasingBy-drop}
use Rattle.std.proofs.lemmas.Option.{get_or_from_slice_get, slice_get_within}
use Rattle.css_model.specs.Cascade.Order.{Pair, HasPair, IsPairAt}
use Rattle.css_model.specs.declared.sheet.Item.{Item}
use Rattle.css_model.specs.Sheets.StyleRule.{selectors_of}
use Rattle.list_facts.proofs.Elements.{all_drop, all_take, member}
use Rattle.order_index.proofs.Parts.{Contains-behind, filter_before, filter_behind}
use Rattle.order_index.proofs.Rising.{pairs_rise}
use Rattle.order_index.proofs.Turned.{reversed_within}
use Rattle.order_index.specs.Afterwards.{after, edit_at, moves}
use Rattle.order_index.specs.Listed.{HasAllReversed, IsChange, IsListed}
use Rattle.order_laws.specs.Comparing.{OrderIsDecided, WeighingIsDecided}
use Rattle.order_laws.specs.Places.{ListedStandsLast, PlacedPair, StandsLast, last_pairs, place_of}
use Rattle.order_laws.specs.Reversed.{is_reversed}
use Rattle.selector_laws.specs.Limits.{KeepsLimits, ReadSelectorsKeepTheLimits}
use Rattle.sheet_order.proofs.ForCallers.{all_members, last_limited, planned_limited}
use Rattle.sheet_order.specs.Narrow.{CanBePlanned}
use Rattle.step_laws.specs.declared.step.Step.{Step}
use Rattle.step_laws.specs.Steps.{IsStep, last_item}
use Rattle.step_obstacles.proofs.ForCallers.{stands_at, window_facts}
use Rattle.plan_laws.specs.Window.StepWindows.{StepsHaveWindows, window_start}
use Rattle.plan_laws.specs.Window.Windows.{WindowsTellPairs}
use Rattle.window_order.proofs.ForCallers.{get_drop}
use Rattle.window_order.specs.declared.window.Window.{Window}

abbrev item_of : PlacedPair → ℕ
item_of q = q.place.item

-- a pair that stands last somewhere stands there
pub member_at : {X : Type 0} (xs : List X) (i : ℕ) (x : X) → slice_get xs i ≡ Some x → Contains xs x
member_at xs i x at = (i, slice_get_within xs i x at, get_or_from_slice_get xs i x x at)

pub last_at : (items : List Item) (q : PlacedPair) → StandsLast (λ n. true) items q → IsPairAt items q.pair (place_of q.place)
last_at items q s = record { rule = s.rule; decl = s.item; rule_at = s.rule_at; selector_in = member_at (selectors_of s.rule) q.place.selector q.pair.selector s.selector_at; decl_at = s.decl_at; decl_is = s.decl_is }

pub listed_stands : ListedStandsLast → (items : List Item) (q : PlacedPair) → Contains (last_pairs items) q → HasPair items q.pair
listed_stands law items q h = (place_of q.place, last_at items q ((law (λ n. true) items q).0 h))

-- the last pairs of a sheet are listed
pub are_listed : ListedStandsLast → ReadSelectorsKeepTheLimits → (items : List Item) → CanBePlanned items → AllByRecursion (IsListed items) (last_pairs items)
are_listed law limits items planned =
    all_members (IsListed items) (last_pairs items) (λ q h.
    record { limited = member (λ x. KeepsLimits x.pair.selector) (last_pairs items) q (last_limited law (λ n. true) items (planned_limited limits items planned)) h; stands = listed_stands law items q h })

module _ (law : ListedStandsLast) (have : StepsHaveWindows) (tell : WindowsTellPairs) (weighing : WeighingIsDecided) (order : OrderIsDecided) (items : List Item) (k : Step) (is : IsStep items k (edit_at items k)) where
  -- what a step reverses stands last in its window
  pub not_above : (p : Pair) (q : PlacedPair) → moves items k p ≡ true → Contains (last_pairs items) q → is_reversed items (after items k) p q.pair ≡ true → q.place.item < window_start k → ⊥
  not_above p q moved inside h low =
      let stands : StandsLast (λ n. true) items q = (law (λ n. true) items q).0 inside in
      let r = reversed_within have tell weighing order items k is p q.pair moved (listed_stands law items q inside) h in
      let there = stands_at items k (edit_at items k) (window_facts items k (edit_at items k) is) q.pair r.0.there in
      let start = there.4 in
      stands.last (record { item = there.0; position = there.1 })
      (record { rule = there.2; decl = there.3; rule_at = there.6; selector_in = there.7; decl_at = there.8; decl_is = there.9 }) refl (inl (omega (arith, start, low)))

  pub not_behind : (p : Pair) (q : PlacedPair) → moves items k p ≡ true → Contains (last_pairs items) q → is_reversed items (after items k) p q.pair ≡ true → last_item k < q.place.item → ⊥
  not_behind p q moved inside h high =
      let stands : StandsLast (λ n. true) items q = (law (λ n. true) items q).0 inside in
      let r = reversed_within have tell weighing order items k is p q.pair moved (listed_stands law items q inside) h in
      let at = last_at items q stands in
      let n : ℕ = q.place.item - (last_item k + 1) in
      let same : (last_item k + 1) + n ≡ q.place.item = omega (arith, high) in
      r.2 (
        record { item = n; position = q.place.decl },
        record { rule = at.rule; decl = at.decl; rule_at = get_drop items (last_item k + 1) n ∙ ap (slice_get items) same ∙ at.rule_at; selector_in = at.selector_in; decl_at = at.decl_at; decl_is = at.decl_is },
      )

  -- so they are all there
  pub has_all : (start last : ℕ) (rest part : List PlacedPair) → start ≡ window_start k → last ≡ last_item k →
      rest ≡ drop (prefix_len (λ q. nat_lt q.place.item start) (last_pairs items)) (last_pairs items) → part ≡ take (prefix_len (λ q. nat_le q.place.item last) rest) rest →
      HasAllReversed items k part
  has_all start last rest part start_is last_is rest_is part_is p moved =
      ap (filter test) part_is ∙ sym (filter_before test (λ q. q.place.item) last rest rises behind)
      ∙ ap (filter test) rest_is ∙ sym (filter_behind test (λ q. nat_lt q.place.item start) (last_pairs items) above)
    where
      test : PlacedPair → Bool
      test q = is_reversed items (after items k) p q.pair

      rises : IsNonDecreasingBy (λ q. q.place.item) rest
      rises = subst (IsNonDecreasingBy (λ q. q.place.item)) (sym rest_is) (IsNonDecreasingBy-drop (λ q. q.place.item) (prefix_len (λ q. nat_lt q.place.item start) (last_pairs items)) (last_pairs items) (pairs_rise items))

      above : (q : PlacedPair) → Contains (last_pairs items) q → nat_lt q.place.item start ≡ true → test q ≡ false
      above q inside low = false_from_ne_true (test q) (λ h. let less : q.place.item < start = ltb-true q.place.item start low in not_above p q moved inside h (omega (arith, less, start_is)))

      behind : (q : PlacedPair) → Contains rest q → last < q.place.item → test q ≡ false
      behind q inside high = false_from_ne_true (test q) (λ h.
          not_behind p q moved (Contains-behind (last_pairs items) (prefix_len (λ q. nat_lt q.place.item start) (last_pairs items)) q (subst (λ (xs : List PlacedPair). Contains xs q) rest_is inside)) h (omega (arith, high, last_is)))

-- a part of the last pairs is listed
pub part_listed : ListedStandsLast → ReadSelectorsKeepTheLimits → (items : List Item) → CanBePlanned items → (m n : ℕ) (rest part : List PlacedPair) → rest ≡ drop m (last_pairs items) → part ≡ take n rest → AllByRecursion (IsListed items) part
part_listed law limits items planned m n rest part rest_is part_is =
    subst (AllByRecursion (IsListed items)) (sym (part_is ∙ ap (take n) rest_is)) (all_take (IsListed items) n (drop m (last_pairs items)) (all_drop (IsListed items) m (last_pairs items) (are_listed law limits items planned)))

-- so it rises
pub rest_rises : (items : List Item) (m : ℕ) (rest : List PlacedPair) → rest ≡ drop m (last_pairs items) → IsNonDecreasingBy (λ q. q.place.item) rest
rest_rises items m rest is = subst (IsNonDecreasingBy (λ q. q.place.item)) (sym is) (IsNonDecreasingBy-drop (λ q. q.place.item) m (last_pairs items) (pairs_rise items))

-- those of the window of a step
pub around_all : ListedStandsLast → StepsHaveWindows → WindowsTellPairs → WeighingIsDecided → OrderIsDecided → (w : Window) (k : Step) → IsChange w k → (items : List Item) → w.items.now ≡ items → (rest part : List PlacedPair) →
    rest ≡ drop (prefix_len (λ q. nat_lt q.place.item w.start) (last_pairs items)) (last_pairs items) → part ≡ take (prefix_len (λ q. nat_le q.place.item w.last) rest) rest → HasAllReversed items k part
around_all law have tell weighing order w k change items same rest part rest_is part_is =
    subst (λ (xs : List Item). HasAllReversed xs k part) same
    (has_all law have tell weighing order w.items.now k change.step w.start w.last rest part change.window.start_is change.window.last_is
    (rest_is ∙ ap (λ (xs : List Item). drop (prefix_len (λ q. nat_lt q.place.item w.start) (last_pairs xs)) (last_pairs xs)) (sym same)) part_is)
