-- What is told of a window tells whether its step is free or blocked.
use Rattle.std.proofs.Common.{◌≡◌, ℕ, ◌+◌, ◌-◌, ◌<◌, ◌≤◌, Bool, true, false, List, ◌++◌, length, map, take, drop, Some, None, refl, sym, ap, ap₂, ◌∙◌, subst, inl, inr, arith}
use Rattle.std.specs.Prelude.{Option, Result, Ok, Err, IfNone, IfOk, IfSome, slice_get, slice_range}
use Rattle.std.specs.List.{Contains}
use Rattle.std.proofs.lemmas.Bool.{false≢true}
use Rattle.css_model.specs.Cascade.Order.{Pair, HasPair, IsPairAt, IsBefore, IsBeforeKept}
use Rattle.css_model.specs.declared.sheet.Decl.{Decl}
use Rattle.css_model.specs.declared.sheet.DeclItem.{DeclItem}
use Rattle.css_model.specs.declared.sheet.Item.{Item}
use Rattle.css_model.specs.declared.sheet.Item.TheVariants.{Rule, KeptRule, KeptBlock}
use Rattle.css_model.specs.declared.sheet.SelItem.{SelItem}
use Rattle.css_model.specs.Documents.SelectorParts.{SelectorParts}
use Rattle.css_model.specs.Sheets.KeptItems.{is_kept, kept_before, kept_items}
use Rattle.css_model.specs.Sheets.RuleParts.{RuleParts}
use Rattle.list_facts.proofs.SliceRange.{slice_range_parts}
use Rattle.obstacles.specs.Blocking.{IsBlockedBy, Names, moved_pair}
use Rattle.obstacles.specs.declared.obstacle.Obstacle.{Obstacle}
use Rattle.order_laws.proofs.ForCallers.{map_has, map_from}
use Rattle.order_laws.specs.Edits.{Edit, edited, is_moved}
use Rattle.order_laws.specs.Reversing.{Differ, ReversesPair, ReversesKept}
use Rattle.overlap.specs.PairsParts.{Answered}
use Rattle.sheet_order.specs.Laws.{answer_seen}
use Rattle.step_laws.specs.declared.step.Step.{Step}
use Rattle.step_laws.specs.Free as steps
use Rattle.step_laws.specs.Left.{StepsAreOneEdit}
use Rattle.step_laws.specs.Steps.{HasStep, IsStep, last_item}
use Rattle.step_obstacles.proofs.KeptPlaces.{kept_at, kept_found, kept_middle, number_is, range_at}
use Rattle.sheet_order.specs.Taking.{moved_of}
use Rattle.step_obstacles.proofs.Looking.{member_at}
use Rattle.step_obstacles.proofs.Moving.{are_moving}
use Rattle.step_obstacles.proofs.WindowFacts.{WindowFacts, window_facts}
use Rattle.step_obstacles.specs.Blocked.{AllPass, AreAnswered, IsFound, IsTold}
use Rattle.step_obstacles.specs.declared.facing.Source.{Source}
use Rattle.step_obstacles.specs.StepWindow.{AreMoving, IsOfSource, IsToldBy, IsWindowFor}
use Rattle.step_obstacles.specs.Turns.{OfItem, OfNumber, OfSelectors, OfWindow, is_common, pair_of, with_kept}
use Rattle.plan_laws.specs.Barrier.Hindering.{Hindrance, OfPair, OfKept, Hinders}
use Rattle.plan_laws.specs.Window.StepWindows.{StepsHaveWindows, window_start, middle_start, first_left, last_left, first_part, middle_part, last_part}
use Rattle.plan_laws.specs.Window.Windows.{IsWindow, WindowsTellPairs, WindowsTellKept}
use Rattle.window_order.proofs.ForCallers.{at_range}
use Rattle.window_order.specs.declared.window.Window.{Window}
use Rattle.window_order.specs.Reversed.{IsReversed, IsKeptReversed, behind_of, first_of, kept_number, middle_of, new_of, old_of}

-- ---- Answers

seen_as : (answers : List Answered) (x y : SelectorParts) (b : Bool) → AreAnswered answers x y b → Contains (map answer_seen answers) (record { first = x; second = y; is_apart = b })
seen_as answers x y b h =
    subst (λ (b : Bool). Contains (map answer_seen answers) (record { first = x; second = y; is_apart = b })) h.2 (map_has answer_seen answers (record { left = x; right = y; answer = h.0 }) h.1)

-- ---- What is looked at is moved

abbrev OfOne : List Source → Hindrance → Type 0
OfOne sources by = (s : Source) × Contains sources s × IsOfSource s (moved_pair by)

of_selectors : (s : Source) (x : DeclItem) (f : Pair → Hindrance) → Contains s.rule.now.decls x → is_common s.with x.decl ≡ true → ((p : Pair) → moved_pair (f p) ≡ p) → (by : Hindrance) → OfSelectors s.rule.now x.decl f by → IsOfSource s (moved_pair by)
of_selectors s x f inside common same by (y, has, is) =
    subst (IsOfSource s) (sym (ap moved_pair is ∙ same (pair_of y x.decl)))
    (record { selector = map_has (λ (z : SelItem). z.selector) s.rule.now.selectors y has; decl = map_has (λ (z : DeclItem). z.decl) s.rule.now.decls x inside; common = common })

of_item : (list : List Item) (n : ℕ) (item : Item) (s : Source) (x : DeclItem) → Contains s.rule.now.decls x → is_common s.with x.decl ≡ true → (by : Hindrance) → OfItem s.rule.now x.decl list n item by → IsOfSource s (moved_pair by)
of_item list n (Rule r) s x inside common by (g, g_in, (y, y_in, of)) = of_selectors s x (λ p. OfPair p (pair_of y g.decl)) inside common (λ p. refl) by of
of_item list n (KeptRule k) s x inside common by of = of_selectors s x (with_kept list n) inside common (λ p. refl) by of
of_item list n (KeptBlock k) s x inside common by of = of_selectors s x (with_kept list n) inside common (λ p. refl) by of

pub of_one : (w : Window) (sources : List Source) (by : Hindrance) → OfWindow w sources by → OfOne sources by
of_one w sources by (n, above, below, (item, at, (s, s_in, (x, x_in, (common, of))))) = (s, s_in, of_item w.items.now n item s x x_in common by of)

-- ---- What is moved is looked at

abbrev pair : SelectorParts → Decl → Pair
pair s d = record { selector = s; decl = d }

-- a pair of a source, by its parts
abbrev InSource : Source → Pair → Type 0
InSource s p = (x : DeclItem) × Contains s.rule.now.decls x × (y : SelItem) × Contains s.rule.now.selectors y × (p ≡ pair_of y x.decl) × (is_common s.with x.decl ≡ true)

in_source : (s : Source) (p : Pair) → IsOfSource s p → InSource s p
in_source s p is =
    let d = map_from (λ (z : DeclItem). z.decl) s.rule.now.decls p.decl is.decl in
    let t = map_from (λ (z : SelItem). z.selector) s.rule.now.selectors p.selector is.selector in
    (d.0, d.1, t.0, t.1, sym (ap₂ (λ (a : SelectorParts) (b : Decl). pair a b) t.2 d.2), subst (λ (f : Decl). is_common s.with f ≡ true) (sym d.2) is.common)

-- a pair of a rule, by its parts
in_rule : (r : RuleParts) (q : Pair) (g : DeclItem) (k : ℕ) → Contains (map (λ (z : SelItem). z.selector) r.selectors) q.selector → slice_get r.decls k ≡ Some g → g.decl ≡ q.decl →
    (y : SelItem) × Contains r.selectors y × (q ≡ pair_of y g.decl)
in_rule r q g k has at is =
    let t = map_from (λ (z : SelItem). z.selector) r.selectors q.selector has in
    (t.0, t.1, sym (ap₂ (λ (a : SelectorParts) (b : Decl). pair a b) t.2 is))

module _ (w : Window) (sources : List Source) (p : Pair) (one : (s : Source) × Contains sources s × IsOfSource s p) where
  abbrev Parts : Type 0
  Parts = InSource one.0 p

  parts : Parts
  parts = in_source one.0 p one.2

  -- with another pair of an item
  pub pair_of_number : (q : Pair) (n k : ℕ) (r : RuleParts) (g : DeclItem) → slice_get w.items.now n ≡ Some (Rule r) →
      Contains (map (λ (z : SelItem). z.selector) r.selectors) q.selector → slice_get r.decls k ≡ Some g → g.decl ≡ q.decl → OfNumber w.items.now sources n (OfPair p q)
  pair_of_number q n k r g at has g_at g_is =
      let t = in_rule r q g k has g_at g_is in
      (Rule r, at, (one.0, one.1, (parts.0, parts.1, (parts.5, (g, member_at r.decls k g g_at, (t.0, t.1, (parts.2, parts.3, ap₂ (λ (a b : Pair). OfPair a b) parts.4 t.2)))))))

  pub looked_at_pair : (q : Pair) (n k : ℕ) (r : RuleParts) (g : DeclItem) → w.start ≤ n → n ≤ w.last → slice_get w.items.now n ≡ Some (Rule r) →
      Contains (map (λ (z : SelItem). z.selector) r.selectors) q.selector → slice_get r.decls k ≡ Some g → g.decl ≡ q.decl → OfWindow w sources (OfPair p q)
  looked_at_pair q n k r g above below at has g_at g_is = (n, above, below, pair_of_number q n k r g at has g_at g_is)

  -- with a kept item of it
  pub looked_at_kept : (n number : ℕ) (item : Item) → w.start ≤ n → n ≤ w.last → slice_get w.items.now n ≡ Some item → is_kept item ≡ true → number ≡ kept_before n w.items.now → OfWindow w sources (OfKept p number)
  looked_at_kept n number item above below at kept is = (n, above, below, (item, at, (one.0, one.1, (parts.0, parts.1, (parts.5, of item kept)))))
    where
      of : (item : Item) → is_kept item ≡ true → OfItem one.0.rule.now parts.0.decl w.items.now n item (OfKept p number)
      of (Rule r) e = absurd (false≢true e)
      of (KeptRule k) e = (parts.2, parts.3, ap₂ (λ (a : Pair) (m : ℕ). OfKept a m) parts.4 is)
      of (KeptBlock k) e = (parts.2, parts.3, ap₂ (λ (a : Pair) (m : ℕ). OfKept a m) parts.4 is)

-- ---- The window of a step

module _ (items : List Item) (k : Step) (e : Edit) (w : Window) (f : IsWindowFor items k e w) where
  abbrev old_part : List Item
  old_part = first_part items k ++ (middle_part items k ++ last_part items k)

  abbrev new_part : List Item
  new_part = first_left e.changes ++ (middle_part items k ++ last_left e.changes)

  first_same : first_of w ≡ first_part items k
  first_same = ap (λ xs. slice_range xs w.start w.middle) f.items_are ∙ ap₂ (λ (a b : ℕ). slice_range items a b) f.start_is f.middle_is

  pub middle_same : middle_of w ≡ middle_part items k
  middle_same = ap (λ xs. slice_range xs w.middle w.last) f.items_are ∙ ap₂ (λ (a b : ℕ). slice_range items a b) f.middle_is f.last_is

  last_same : slice_range w.items.now w.last (w.last + 1) ≡ last_part items k
  last_same = ap (λ xs. slice_range xs w.last (w.last + 1)) f.items_are ∙ ap (λ (a : ℕ). slice_range items a (a + 1)) f.last_is

  old_same : old_of w ≡ old_part
  old_same = ap₂ (λ (xs ys : List Item). xs ++ ys) first_same (ap₂ (λ (xs ys : List Item). xs ++ ys) middle_same last_same)

  new_same : new_of w ≡ new_part
  new_same = ap₂ (λ (xs ys : List Item). xs ++ ys) f.first_is (ap₂ (λ (xs ys : List Item). xs ++ ys) middle_same f.last_left_is)

  behind_same : behind_of w ≡ drop (last_item k + 1) items
  behind_same = ap (λ xs. drop (w.last + 1) xs) f.items_are ∙ ap (λ (a : ℕ). drop (a + 1) items) f.last_is

  pub reversed_to : (p q : Pair) → Differ (IsBefore old_part p q) (IsBefore new_part p q) → (HasPair (drop (last_item k + 1) items) p → ⊥) → (HasPair (drop (last_item k + 1) items) q → ⊥) → IsReversed w p q
  reversed_to p q order first second = record {
    order = subst (λ xs. Differ (IsBefore xs p q) (IsBefore (new_of w) p q)) (sym old_same) (subst (λ ys. Differ (IsBefore old_part p q) (IsBefore ys p q)) (sym new_same) order);
    first = λ h. first (subst (λ xs. HasPair xs p) behind_same h);
    second = λ h. second (subst (λ xs. HasPair xs q) behind_same h);
  }

  abbrev ReversedIn : Pair → Pair → Type 0
  ReversedIn p q = Differ (IsBefore old_part p q) (IsBefore new_part p q) × (HasPair (drop (last_item k + 1) items) p → ⊥) × (HasPair (drop (last_item k + 1) items) q → ⊥)

  pub reversed_from : (p q : Pair) → IsReversed w p q → ReversedIn p q
  reversed_from p q r = (
    subst (λ xs. Differ (IsBefore xs p q) (IsBefore new_part p q)) old_same (subst (λ ys. Differ (IsBefore (old_of w) p q) (IsBefore ys p q)) new_same r.order),
    λ h. r.first (subst (λ xs. HasPair xs p) (sym behind_same) h),
    λ h. r.second (subst (λ xs. HasPair xs q) (sym behind_same) h),
  )

  pub kept_reversed_to : (p : Pair) (n m : ℕ) → n ≡ m → Differ (IsBeforeKept old_part p n) (IsBeforeKept new_part p n) → (HasPair (drop (last_item k + 1) items) p → ⊥) → IsKeptReversed w p m
  kept_reversed_to p n m same order first = record {
    order = subst (λ (i : ℕ). Differ (IsBeforeKept (old_of w) p i) (IsBeforeKept (new_of w) p i)) same
        (subst (λ xs. Differ (IsBeforeKept xs p n) (IsBeforeKept (new_of w) p n)) (sym old_same) (subst (λ ys. Differ (IsBeforeKept old_part p n) (IsBeforeKept ys p n)) (sym new_same) order));
    first = λ h. first (subst (λ xs. HasPair xs p) behind_same h);
  }

  pub kept_reversed_from : (p : Pair) (n : ℕ) → IsKeptReversed w p n → Differ (IsBeforeKept old_part p n) (IsBeforeKept new_part p n) × (HasPair (drop (last_item k + 1) items) p → ⊥)
  kept_reversed_from p n r = (
    subst (λ xs. Differ (IsBeforeKept xs p n) (IsBeforeKept new_part p n)) old_same (subst (λ ys. Differ (IsBeforeKept (old_of w) p n) (IsBeforeKept ys p n)) new_same r.order),
    λ h. r.first (subst (λ xs. HasPair xs p) (sym behind_same) h),
  )

-- ---- Where pairs and kept items of the window stand in the sheet

module _ (items : List Item) (k : Step) (e : Edit) (facts : WindowFacts items k e) where
  whole_part : first_part items k ++ (middle_part items k ++ last_part items k) ≡ slice_range items (window_start k) (last_item k + 1)
  whole_part =
      let a = facts.start_first in
      let b = facts.middle_first in
      ap (λ xs. first_part items k ++ xs) (sym (slice_range_parts items (middle_start k) (last_item k) (last_item k + 1) b (omega arith)))
      ∙ sym (slice_range_parts items (window_start k) (middle_start k) (last_item k + 1) a (omega (arith, b)))

  abbrev StandsAt : Pair → Type 0
  StandsAt q = (n : ℕ) × (j : ℕ) × (r : RuleParts) × (g : DeclItem) × (window_start k ≤ n) × (n ≤ last_item k) × (slice_get items n ≡ Some (Rule r))
      × Contains (map (λ (z : SelItem). z.selector) r.selectors) q.selector × (slice_get r.decls j ≡ Some g) × (g.decl ≡ q.decl)

  pub stands_at : (q : Pair) → HasPair (first_part items k ++ (middle_part items k ++ last_part items k)) q → StandsAt q
  stands_at q h =
      let at : IsPairAt (slice_range items (window_start k) (last_item k + 1)) q h.0 = subst (λ xs. IsPairAt xs q h.0) whole_part h.1 in
      let a = facts.start_first in
      let b = facts.middle_first in
      let there = range_at items (window_start k) (last_item k + 1) h.0.item (Rule at.rule) (omega (arith, a, b)) at.rule_at in
      let less = there.1 in
      (window_start k + h.0.item, h.0.position, at.rule, at.decl, omega arith, omega (arith, less), there.0, at.selector_in, at.decl_at, at.decl_is)

  -- a kept item of a number among those of the window, by its number in the sheet
  abbrev KeptAt : ℕ → Item → Type 0
  KeptAt n item = (i : ℕ) × (middle_start k ≤ i) × (i < last_item k) × (slice_get items i ≡ Some item) × (is_kept item ≡ true) × (kept_before (i - middle_start k) (middle_part items k) ≡ n)

  pub kept_stands : (n : ℕ) (item : Item) → slice_get (kept_items (first_part items k ++ (middle_part items k ++ last_part items k))) n ≡ Some item → KeptAt n item
  kept_stands n item at =
      let h = kept_found (middle_part items k) n item (sym (ap (λ xs. slice_get xs n) (kept_middle (first_part items k) (middle_part items k) (last_part items k) facts.first_plain facts.last_plain)) ∙ at) in
      let there = range_at items (middle_start k) (last_item k) h.0 item facts.middle_first h.1 in
      let less = there.1 in
      let same : (middle_start k + h.0) - middle_start k ≡ h.0 = omega arith in
      (middle_start k + h.0, omega arith, less, there.0, h.2, ap (λ (j : ℕ). kept_before j (middle_part items k)) same ∙ h.3)

  pub kept_there : (i : ℕ) (item : Item) → middle_start k ≤ i → i < last_item k → slice_get items i ≡ Some item → is_kept item ≡ true →
      slice_get (kept_items (first_part items k ++ (middle_part items k ++ last_part items k))) (kept_before (i - middle_start k) (middle_part items k)) ≡ Some item
  kept_there i item low high at kept =
      let same : middle_start k + (i - middle_start k) ≡ i = omega (arith, low) in
      ap (λ xs. slice_get xs (kept_before (i - middle_start k) (middle_part items k))) (kept_middle (first_part items k) (middle_part items k) (last_part items k) facts.first_plain facts.last_plain)
      ∙ kept_at (middle_part items k) (i - middle_start k) item
      (at_range items (middle_start k) (last_item k) (i - middle_start k) item (omega (arith, low, high)) (ap (slice_get items) same ∙ at)) kept

  pub number_of : (i : ℕ) → middle_start k ≤ i → i < last_item k → kept_before i items ≡ length (kept_items (take (window_start k) items)) + kept_before (i - middle_start k) (middle_part items k)
  number_of i low high = number_is items (window_start k) (middle_start k) (last_item k) i facts.start_first low high facts.first_plain

-- ---- Free steps, and blocked ones

module _ (have : StepsHaveWindows) (tell_pairs : WindowsTellPairs) (tell_kept : WindowsTellKept) (items : List Item) (k : Step) (sources : List Source) (moving : AreMoving items k sources) (answers : List Answered) (w : Window) where
  abbrev above : List Item
  above = take (window_start k) items

  abbrev behind : List Item
  behind = drop (last_item k + 1) items

  module _ (e : Edit) (is : IsStep items k e) (f : IsWindowFor items k e w) where
    abbrev within : List Item
    within = first_part items k ++ (middle_part items k ++ last_part items k)

    abbrev within' : List Item
    within' = first_left e.changes ++ (middle_part items k ++ last_left e.changes)

    window : IsWindow items (edited e items) e.moved above within within' behind
    window = have items k e is

    facts : WindowFacts items k e
    facts = window_facts items k e is

    free_pairs : AllPass answers w (OfWindow w sources) → (p q : Pair) → ReversesPair items (edited e items) e.moved p q → steps.AreApart (map answer_seen answers) p.selector q.selector
    free_pairs pass p q reverses =
        let h = (tell_pairs items (edited e items) e.moved above within within' behind window p q).0 reverses in
        let r : ReversesPair within within' e.moved p q = h.0 in
        let at = stands_at items k e facts q r.there in
        let start = at.4 in
        let last = at.5 in
        let start_is = f.start_is in
        let last_is = f.last_is in
        let of : OfWindow w sources (OfPair p q) =
        looked_at_pair w sources p ((moving e is p).0 r.moved) q at.0 at.1 at.2 at.3 (omega (arith, start, start_is)) (omega (arith, last, last_is))
        (ap (λ xs. slice_get xs at.0) f.items_are ∙ at.6) at.7 at.8 at.9 in
        seen_as answers p.selector q.selector true (pass (OfPair p q) of (r.weigh, reversed_to items k e w f p q r.order h.1 h.2))

    free_kept : AllPass answers w (OfWindow w sources) → (p : Pair) (number : ℕ) → ReversesKept items (edited e items) e.moved p number → ⊥
    free_kept pass p number reverses =
        let h = (tell_kept items (edited e items) e.moved above within within' behind window p number).0 reverses in
        let r : ReversesKept within within' e.moved p h.0 = h.2 in
        let at = kept_stands items k e facts h.0 r.item r.item_at in
        let low = at.1 in
        let high = at.2 in
        let start_is = f.start_is in
        let last_is = f.last_is in
        let start_first = facts.start_first in
        let n_is : kept_before (at.0 - middle_start k) (middle_part items k) ≡ h.0 = at.5 in
        let number_same : number ≡ kept_before at.0 items = h.1 ∙ ap (λ (n : ℕ). length (kept_items above) + n) (sym n_is) ∙ sym (number_of items k e facts at.0 at.1 at.2) in
        let number_in : number ≡ kept_before at.0 w.items.now = number_same ∙ ap (λ xs. kept_before at.0 xs) (sym f.items_are) in
        let item_at : slice_get w.items.now at.0 ≡ Some r.item = ap (λ xs. slice_get xs at.0) f.items_are ∙ at.3 in
        let start : w.start ≤ at.0 = omega (arith, low, start_is, start_first) in
        let last : at.0 ≤ w.last = omega (arith, high, last_is) in
        let of : OfWindow w sources (OfKept p number) = looked_at_kept w sources p ((moving e is p).0 r.moved) at.0 number r.item start last item_at at.4 number_in in
        let same : h.0 ≡ kept_number w at.0 = sym n_is ∙ ap₂ (λ (m : ℕ) (xs : List Item). kept_before (at.0 - m) xs) (sym f.middle_is) (sym (middle_same items k e w f)) in
        pass (OfKept p number) of
        (at.0, record { item = r.item; item_at = item_at; kept = at.4; above = start; below = last }, number_in, r.weighs, kept_reversed_to items k e w f p h.0 (kept_number w at.0) same r.order h.3)

    pub is_free : AllPass answers w (OfWindow w sources) → steps.IsFree (map answer_seen answers) items e
    is_free pass = record { pairs = free_pairs pass; kept = free_kept pass }

    second_within : (p q : Pair) → Differ (IsBefore within p q) (IsBefore within' p q) → HasPair within q
    second_within p q (inl h) = (h.0.later, h.0.second.stands)
    second_within p q (inr h) = window.none_comes q (h.1.later, h.1.second.stands)

    pub hinders : (by : Hindrance) → OfWindow w sources by → IsTold answers w by true → Hinders (map answer_seen answers) items e by
    hinders (OfPair p q) of ((weigh, reversed), told) =
        let r = reversed_from items k e w f p q reversed in
        let moved : is_moved e.moved p ≡ true = (moving e is p).1 (of_one w sources (OfPair p q) of) in
        ((tell_pairs items (edited e items) e.moved above within within' behind window p q).1 (record { moved = moved; there = second_within p q r.0; weigh = weigh; order = r.0 }, r.1, r.2), seen_as answers p.selector q.selector false told)
    hinders (OfKept p number) of ((i, kept, number_in, weighs, reversed), told) =
        let item_at : slice_get items i ≡ Some kept.item = ap (λ xs. slice_get xs i) (sym f.items_are) ∙ kept.item_at in
        let a = kept.above in
        let b = kept.below in
        let start_is = f.start_is in
        let last_is = f.last_is in
        let low = facts.between i kept.item item_at kept.kept (omega (arith, a, start_is)) (omega (arith, b, last_is)) in
        let n : ℕ = kept_before (i - middle_start k) (middle_part items k) in
        let same : kept_number w i ≡ n = ap₂ (λ (m : ℕ) (xs : List Item). kept_before (i - m) xs) f.middle_is (middle_same items k e w f) in
        let r = kept_reversed_from items k e w f p n (subst (IsKeptReversed w p) same reversed) in
        let moved : is_moved e.moved p ≡ true = (moving e is p).1 (of_one w sources (OfKept p number) of) in
        let number_same : number ≡ length (kept_items above) + n = number_in ∙ ap (λ xs. kept_before i xs) f.items_are ∙ number_of items k e facts i low.0 low.1 in
        (tell_kept items (edited e items) e.moved above within within' behind window p number).1
        (n, number_same, record { item = kept.item; moved = moved; item_at = kept_there items k e facts i kept.item low.0 low.1 item_at kept.kept; weighs = weighs; order = r.0 }, r.1)

  pub is_blocked : StepsAreOneEdit → HasStep items k → ((e : Edit) → IsStep items k e → IsWindowFor items k e w) → (o : Obstacle) → IsFound answers w (OfWindow w sources) o → IsBlockedBy (map answer_seen answers) items k o
  is_blocked one has f o found = record {
    by = found.by;
    names = subst (λ xs. Names xs o found.by) (f has.0 has.1).items_are found.names;
    hinders = λ e is. hinders e is (f e is) found.by found.of found.told;
  }

-- ---- What is told of the pairs that a step moves

module _ (have : StepsHaveWindows) (tell_pairs : WindowsTellPairs) (tell_kept : WindowsTellKept) (items : List Item) (k : Step) (answers : List Answered) (w : Window)
    (f : (e : Edit) → IsStep items k e → IsWindowFor items k e w) {E : Type 0} where
  pub told_free : (r : Result (Option Obstacle) E) → IfOk r (λ found. IsToldBy answers items (moved_of k) w found) →
      IfOk r (λ found. IfNone found ((e : Edit) → IsStep items k e → steps.IsFree (map answer_seen answers) items e))
  told_free (Ok None) h = λ e is. is_free have tell_pairs tell_kept items k h.0 (are_moving items k h.0 h.1) answers w e is (f e is) h.2
  told_free (Ok (Some o)) h = tt
  told_free (Err e) h = tt

  pub told_blocked : StepsAreOneEdit → HasStep items k → (r : Result (Option Obstacle) E) → IfOk r (λ found. IsToldBy answers items (moved_of k) w found) →
      IfOk r (λ found. IfSome found (λ o. IsBlockedBy (map answer_seen answers) items k o))
  told_blocked one has (Ok None) h = tt
  told_blocked one has (Ok (Some o)) h = is_blocked have tell_pairs tell_kept items k h.0 (are_moving items k h.0 h.1) answers w one has f o h.2
  told_blocked one has (Err e) h = tt
