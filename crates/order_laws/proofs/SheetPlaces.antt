-- The list of the last places of a sheet: it has exactly the pairs that stand last.
use Rattle.std.proofs.Common.{◌≡◌, ◌↔◌, ◌⊎◌, ℕ, zero, suc, ◌+◌, ◌<◌, ◌≤◌, Bool, true, false, not, List, [], ◌∷◌, ◌++◌, map, Some, None, refl, sym, ap, ap₂, ◌∙◌, subst, inl, inr, arith}
use Rattle.std.specs.Prelude.{slice_get}
use Rattle.std.specs.List.{Contains, filter}
use Rattle.std.proofs.lemmas.Bool.{false≢true, cond_both, cond-true, not-true, not_from_false}
use Rattle.std.proofs.lemmas.Option.{slice_get_within, get_or_from_slice_get}
use Rattle.std.proofs.lemmas.List.Elements.{Contains-append_left, Contains-append_right, Contains-append_cases}
use Rattle.cascade_laws.proofs.ForCallers.{some-same, rule-same}
use Rattle.list_facts.proofs.Members.{Contains-nil, Contains-filter, Contains-filtered}
use Rattle.css_model.specs.declared.sheet.Decl.{Decl}
use Rattle.css_model.specs.declared.sheet.Item.{Item}
use Rattle.css_model.specs.declared.sheet.Item.TheVariants.{Rule, KeptRule, KeptBlock}
use Rattle.css_model.specs.Cascade.Winner.{Place, IsLater}
use Rattle.css_model.specs.Cascade.Order.{Pair, IsPairAt}
use Rattle.css_model.specs.Sheets.RuleParts.{RuleParts}
use Rattle.css_model.specs.Documents.SelectorParts.{SelectorParts}
use Rattle.css_model.specs.Sheets.StyleRule.{selectors_of}
use Rattle.order_laws.specs.Members.{same_pair}
use Rattle.order_laws.specs.Places.{PairPlace, PlacedPair, place_of, StandsLast, first_selectors, last_decls, placed, pairs_of, has_pair, last_pairs_from}
use Rattle.order_laws.proofs.LastPlaces.{LastIn, among}
use Rattle.order_laws.proofs.Lists.{any_from, any_of, map_has, map_from, flat_map_has, flat_map_from}
use Rattle.order_laws.proofs.PlaceOrder.{which_later}
use Rattle.order_laws.proofs.RulePlaces.{pair_is, is_pair, FirstIn, first_selectors_sound, first_selectors_complete, last_decls_sound, last_decls_complete}
use Rattle.order_laws.proofs.RulePairs.{decls, sels, decl_in}

abbrev at : ℕ → ℕ → Place
at item position = record { item = item; position = position }

-- ---- The pairs of a rule

-- a pair stands in a rule at its first selector and its last declaration
record InRuleAt (r : RuleParts) (x : PlacedPair) : Type 0 where
  selector : FirstIn r.selectors x.pair.selector x.place.selector
  decl : LastIn r.decls x.pair.decl x.place.decl

pairs_of_sound : (n : ℕ) (r : RuleParts) (x : PlacedPair) → Contains (pairs_of n (Rule r)) x → (x.place.item ≡ n) × InRuleAt r x
pairs_of_sound n r x h =
    let s : (s : ℕ × SelectorParts) × Contains (first_selectors 0 r.selectors) s × Contains (map (placed n s) (last_decls 0 r.decls)) x =
    flat_map_from (λ s. map (placed n s) (last_decls 0 r.decls)) (first_selectors 0 r.selectors) x h in
    let d : (d : ℕ × Decl) × Contains (last_decls 0 r.decls) d × (placed n s.0 d ≡ x) = map_from (placed n s.0) (last_decls 0 r.decls) x s.2 in
    let f : (j : ℕ) × (s.0.0 ≡ 0 + j) × FirstIn r.selectors s.0.1 j = first_selectors_sound 0 r.selectors s.0.0 s.0.1 s.1 in
    let l : (j : ℕ) × (d.0.0 ≡ 0 + j) × LastIn r.decls d.0.1 j = last_decls_sound 0 r.decls d.0.0 d.0.1 d.1 in
    let fe : f.0 ≡ s.0.0 = omega (arith, f.1) in
    let le : l.0 ≡ d.0.0 = omega (arith, l.1) in
    subst (λ (y : PlacedPair). (y.place.item ≡ n) × InRuleAt r y) d.2
    (refl, record { selector = subst (λ (i : ℕ). FirstIn r.selectors s.0.1 i) fe f.2; decl = subst (λ (i : ℕ). LastIn r.decls d.0.1 i) le l.2 })

pairs_of_complete : (n : ℕ) (r : RuleParts) (p : Pair) → Contains (sels r.selectors) p.selector → Contains (decls r.decls) p.decl → (x : PlacedPair) × Contains (pairs_of n (Rule r)) x × (x.pair ≡ p)
pairs_of_complete n r p hs hd =
    let k : (k : ℕ) × Contains (first_selectors 0 r.selectors) (k, p.selector) = first_selectors_complete 0 r.selectors p.selector hs in
    let l : (k : ℕ) × Contains (last_decls 0 r.decls) (k, p.decl) = last_decls_complete 0 r.decls p.decl hd in (
      placed n (k.0, p.selector) (l.0, p.decl),
      flat_map_has (λ s. map (placed n s) (last_decls 0 r.decls)) (first_selectors 0 r.selectors) (k.0, p.selector) (placed n (k.0, p.selector) (l.0, p.decl)) k.1
          (map_has (placed n (k.0, p.selector)) (last_decls 0 r.decls) (l.0, p.decl) l.1),
      refl,
    )

-- ---- Each pair of an item that counts is in the list

has_pair_from : (xs : List PlacedPair) (p : Pair) → has_pair xs p ≡ true → (x : PlacedPair) × Contains xs x × (x.pair ≡ p)
has_pair_from xs p h = let w : (x : PlacedPair) × Contains xs x × (same_pair x.pair p ≡ true) = any_from (λ x. same_pair x.pair p) xs h in (w.0, w.1, pair_is w.0.pair p w.2)

has_pair_of : (xs : List PlacedPair) (p : Pair) (x : PlacedPair) → Contains xs x → x.pair ≡ p → has_pair xs p ≡ true
has_pair_of xs p x h e = any_of (λ x. same_pair x.pair p) xs x h (is_pair x.pair p e)

-- what is in the later part is in the whole
in_later : (counts : ℕ → Bool) (n : ℕ) (item : Item) (items : List Item) (x : PlacedPair) → Contains (last_pairs_from counts (suc n) items) x → Contains (last_pairs_from counts n (item ∷ items)) x
in_later counts n item items x h =
    let later : List PlacedPair = last_pairs_from counts (suc n) items in
    let own : List PlacedPair = filter (λ p. not (has_pair later p.pair)) (pairs_of n item) in
    cond_both (counts n) (own ++ later) later (λ ys. Contains ys x) (λ counted. Contains-append_right own later x h) (λ other. h)

in_own : (counts : ℕ → Bool) (n : ℕ) (item : Item) (items : List Item) (x : PlacedPair) → counts n ≡ true → Contains (pairs_of n item) x → has_pair (last_pairs_from counts (suc n) items) x.pair ≡ false →
    Contains (last_pairs_from counts n (item ∷ items)) x
in_own counts n item items x counted h none =
    let later : List PlacedPair = last_pairs_from counts (suc n) items in
    let own : List PlacedPair = filter (λ p. not (has_pair later p.pair)) (pairs_of n item) in
    subst (λ (ys : List PlacedPair). Contains ys x) (sym (cond-true (counts n) (own ++ later) later counted))
    (Contains-append_left own later x (Contains-filtered (λ p. not (has_pair later p.pair)) (pairs_of n item) x h (not_from_false (has_pair later x.pair) none)))

pub last_pairs_complete : (counts : ℕ → Bool) (n : ℕ) (items : List Item) (p : Pair) (i k : ℕ) → IsPairAt items p (at i k) → counts (n + i) ≡ true → (x : PlacedPair) × Contains (last_pairs_from counts n items) x × (x.pair ≡ p)
last_pairs_complete counts n [] p i k h counted = absurd (let e : None ≡ Some (Rule h.rule) = h.rule_at in cc)
last_pairs_complete counts n (item ∷ items) p zero k h counted = which (has_pair (last_pairs_from counts (suc n) items) p) refl
  where
    own : (x : PlacedPair) × Contains (pairs_of n item) x × (x.pair ≡ p)
    own = subst (λ (y : Item). (x : PlacedPair) × Contains (pairs_of n y) x × (x.pair ≡ p)) (sym (some-same h.rule_at))
        (pairs_of_complete n h.rule p h.selector_in (subst (λ (d : Decl). Contains (decls h.rule.decls) d) h.decl_is (decl_in h.rule.decls k h.decl h.decl_at)))

    counts_n : counts n ≡ true
    counts_n = let e : n + 0 ≡ n = omega arith in subst (λ (m : ℕ). counts m ≡ true) e counted

    which : (b : Bool) → has_pair (last_pairs_from counts (suc n) items) p ≡ b → (x : PlacedPair) × Contains (last_pairs_from counts n (item ∷ items)) x × (x.pair ≡ p)
    which true again = let w : (x : PlacedPair) × Contains (last_pairs_from counts (suc n) items) x × (x.pair ≡ p) = has_pair_from (last_pairs_from counts (suc n) items) p again in (w.0, in_later counts n item items w.0 w.1, w.2)
    which false once = (own.0, in_own counts n item items own.0 counts_n own.1 (ap (has_pair (last_pairs_from counts (suc n) items)) own.2 ∙ once), own.2)
last_pairs_complete counts n (item ∷ items) p (suc i) k h counted =
    let e : n + suc i ≡ suc n + i = omega arith in
    let w : (x : PlacedPair) × Contains (last_pairs_from counts (suc n) items) x × (x.pair ≡ p) = last_pairs_complete counts (suc n) items p i k (among item items p i k h) (subst (λ (m : ℕ). counts m ≡ true) e counted) in
    (w.0, in_later counts n item items w.0 w.1, w.2)

-- ---- Each pair of the list stands last

-- the first of the items has number n
record LastFrom (counts : ℕ → Bool) (n : ℕ) (items : List Item) (x : PlacedPair) : Type 0 where
  index : ℕ
  number : x.place.item ≡ n + index
  rule : RuleParts
  rule_at : slice_get items index ≡ Some (Rule rule)
  counted : counts (n + index) ≡ true
  in_rule : InRuleAt rule x
  none_behind : (i k : ℕ) → index < i → IsPairAt items x.pair (at i k) → counts (n + i) ≡ true → ⊥

behind_item : (counts : ℕ → Bool) (n : ℕ) (item : Item) (items : List Item) (x : PlacedPair) → LastFrom counts (suc n) items x → LastFrom counts n (item ∷ items) x
behind_item counts n item items x l =
    let e : suc n + l.index ≡ n + suc l.index = omega arith in
    record {
      index = suc l.index;
      number = l.number ∙ e;
      rule = l.rule;
      rule_at = l.rule_at;
      counted = subst (λ (m : ℕ). counts m ≡ true) e l.counted;
      in_rule = l.in_rule;
      none_behind = none;
    }
  where
    none : (i k : ℕ) → suc l.index < i → IsPairAt (item ∷ items) x.pair (at i k) → counts (n + i) ≡ true → ⊥
    none zero k less h c = absurd (omega arith)
    none (suc i) k less h c =
        let e : n + suc i ≡ suc n + i = omega arith in
        l.none_behind i k (omega arith) (among item items x.pair i k h) (subst (λ (m : ℕ). counts m ≡ true) e c)

last_pairs_sound : (counts : ℕ → Bool) (n : ℕ) (items : List Item) (x : PlacedPair) → Contains (last_pairs_from counts n items) x → LastFrom counts n items x
last_pairs_sound counts n [] x = λ h. absurd (Contains-nil x h)
last_pairs_sound counts n (item ∷ items) x =
    let later : List PlacedPair = last_pairs_from counts (suc n) items in
    let own : List PlacedPair = filter (λ p. not (has_pair later p.pair)) (pairs_of n item) in
    cond_both (counts n) (own ++ later) later (λ ys. Contains ys x → LastFrom counts n (item ∷ items) x)
    (λ counted h. which counted (last_pairs_sound counts (suc n) items x) (Contains-append_cases own later x h))
    (λ other h. behind_item counts n item items x (last_pairs_sound counts (suc n) items x h))
  where
    none : has_pair (last_pairs_from counts (suc n) items) x.pair ≡ false → (i k : ℕ) → 0 < i → IsPairAt (item ∷ items) x.pair (at i k) → counts (n + i) ≡ true → ⊥
    none once zero k less h c = absurd (omega arith)
    none once (suc i) k less h c =
        let e : n + suc i ≡ suc n + i = omega arith in
        let w : (y : PlacedPair) × Contains (last_pairs_from counts (suc n) items) y × (y.pair ≡ x.pair) = last_pairs_complete counts (suc n) items x.pair i k (among item items x.pair i k h) (subst (λ (m : ℕ). counts m ≡ true) e c) in
        false≢true (sym once ∙ has_pair_of (last_pairs_from counts (suc n) items) x.pair w.0 w.1 w.2)

    first : counts n ≡ true → has_pair (last_pairs_from counts (suc n) items) x.pair ≡ false → (y : Item) → item ≡ y → Contains (pairs_of n y) x → LastFrom counts n (item ∷ items) x
    first counted once (KeptRule kept) e h = absurd (Contains-nil x h)
    first counted once (KeptBlock piece) e h = absurd (Contains-nil x h)
    first counted once (Rule r) e h =
        let w : (x.place.item ≡ n) × InRuleAt r x = pairs_of_sound n r x h in
        let g : n ≡ n + 0 = omega arith in
        record { index = 0; number = w.0 ∙ g; rule = r; rule_at = ap Some e; counted = subst (λ (m : ℕ). counts m ≡ true) g counted; in_rule = w.1; none_behind = none once }

    which : counts n ≡ true → (Contains (last_pairs_from counts (suc n) items) x → LastFrom counts (suc n) items x) →
        Contains (filter (λ p. not (has_pair (last_pairs_from counts (suc n) items) p.pair)) (pairs_of n item)) x ⊎ Contains (last_pairs_from counts (suc n) items) x → LastFrom counts n (item ∷ items) x
    which counted ih (inr h) = behind_item counts n item items x (ih h)
    which counted ih (inl h) =
        let w : Contains (pairs_of n item) x × (not (has_pair (last_pairs_from counts (suc n) items) x.pair) ≡ true) = Contains-filter (λ p. not (has_pair (last_pairs_from counts (suc n) items) p.pair)) (pairs_of n item) x h in
        first counted (not-true (has_pair (last_pairs_from counts (suc n) items) x.pair) w.1) item refl w.0

-- ---- The law

stands_last : (counts : ℕ → Bool) (items : List Item) (x : PlacedPair) → LastFrom counts 0 items x → StandsLast counts items x
stands_last counts items x l =
    let e : 0 + l.index ≡ l.index = omega arith in
    let same : l.index ≡ x.place.item = sym e ∙ sym l.number in
    record {
      rule = l.rule;
      item = l.in_rule.decl.item;
      rule_at = ap (slice_get items) (sym same) ∙ l.rule_at;
      counted = subst (λ (m : ℕ). counts m ≡ true) (e ∙ same) l.counted;
      selector_at = l.in_rule.selector.at;
      selector_first = l.in_rule.selector.first;
      decl_at = l.in_rule.decl.at;
      decl_is = l.in_rule.decl.is;
      last = λ other h c later. last other h c (subst (λ (m : ℕ). IsLater other (at m x.place.decl)) (sym same) later);
    }
  where
    last : (other : Place) → IsPairAt items x.pair other → counts other.item ≡ true → IsLater other (at l.index x.place.decl) → ⊥
    last other h c (inl less) = let e : other.item ≡ 0 + other.item = omega arith in l.none_behind other.item other.position less h (subst (λ (m : ℕ). counts m ≡ true) e c)
    last other h c (inr w) =
        let rules : h.rule ≡ l.rule = rule-same (some-same (sym h.rule_at ∙ ap (slice_get items) w.0 ∙ l.rule_at)) in
        let bound : other.position ≤ x.place.decl = l.in_rule.decl.last other.position h.decl (ap (λ (r : RuleParts). slice_get r.decls other.position) (sym rules) ∙ h.decl_at) h.decl_is in
        absurd (omega (arith, w.1, bound))

-- a pair that stands last stands
pub last_stands : (counts : ℕ → Bool) (items : List Item) (x : PlacedPair) → StandsLast counts items x → IsPairAt items x.pair (place_of x.place)
last_stands counts items x l = record { rule = l.rule; decl = l.item; rule_at = l.rule_at; selector_in = (x.place.selector, slice_get_within (selectors_of l.rule) x.place.selector x.pair.selector l.selector_at, get_or_from_slice_get (selectors_of l.rule) x.place.selector x.pair.selector x.pair.selector l.selector_at); decl_at = l.decl_at; decl_is = l.decl_is }

abbrev record_of : ℕ → ℕ → ℕ → PairPlace
record_of item selector decl = record { item = item; selector = selector; decl = decl }

placed_same : (x y : PlacedPair) → x.pair ≡ y.pair → x.place.item ≡ y.place.item → x.place.selector ≡ y.place.selector → x.place.decl ≡ y.place.decl → x ≡ y
placed_same x y p i s d =
    let within : (n : ℕ) → record_of n x.place.selector x.place.decl ≡ record_of n y.place.selector y.place.decl = λ n. ap₂ (record_of n) s d in
    let places : x.place ≡ y.place = ap (λ (n : ℕ). record_of n x.place.selector x.place.decl) i ∙ within y.place.item in
    ap₂ (λ (q : Pair) (w : PairPlace). record { pair = q; place = w }) p places

-- and at one place alone
place_is_one : (counts : ℕ → Bool) (items : List Item) (x y : PlacedPair) → StandsLast counts items x → StandsLast counts items y → x.pair ≡ y.pair → x ≡ y
place_is_one counts items x y l m same = which (which_later (place_of x.place) (place_of y.place))
  where
    stands : IsPairAt items x.pair (place_of y.place)
    stands = subst (λ (p : Pair). IsPairAt items p (place_of y.place)) (sym same) (last_stands counts items y m)

    stands' : IsPairAt items y.pair (place_of x.place)
    stands' = subst (λ (p : Pair). IsPairAt items p (place_of x.place)) same (last_stands counts items x l)

    at_one : place_of x.place ≡ place_of y.place → x ≡ y
    at_one e =
        let item_is : x.place.item ≡ y.place.item = ap (λ (w : Place). w.item) e in
        let decl_is : x.place.decl ≡ y.place.decl = ap (λ (w : Place). w.position) e in
        let rules : l.rule ≡ m.rule = rule-same (some-same (sym l.rule_at ∙ ap (slice_get items) item_is ∙ m.rule_at)) in
        let first : slice_get (selectors_of m.rule) x.place.selector ≡ Some y.pair.selector = ap (λ (r : RuleParts). slice_get (selectors_of r) x.place.selector) (sym rules) ∙ l.selector_at ∙ ap (λ (p : Pair). Some p.selector) same in
        let second : slice_get (selectors_of l.rule) y.place.selector ≡ Some x.pair.selector = ap (λ (r : RuleParts). slice_get (selectors_of r) y.place.selector) rules ∙ m.selector_at ∙ ap (λ (p : Pair). Some p.selector) (sym same) in
        let low : x.place.selector ≤ y.place.selector = l.selector_first y.place.selector second in
        let high : y.place.selector ≤ x.place.selector = m.selector_first x.place.selector first in
        let selector_is : x.place.selector ≡ y.place.selector = omega (arith, low, high) in
        placed_same x y same item_is selector_is decl_is

    which : IsLater (place_of x.place) (place_of y.place) ⊎ (place_of x.place ≡ place_of y.place) ⊎ IsLater (place_of y.place) (place_of x.place) → x ≡ y
    which (inl later) = absurd (m.last (place_of x.place) stands' l.counted later)
    which (inr (inl e)) = at_one e
    which (inr (inr later)) = absurd (l.last (place_of y.place) stands m.counted later)

pub listed_stands_last : (counts : ℕ → Bool) (items : List Item) (x : PlacedPair) → Contains (last_pairs_from counts 0 items) x ↔ StandsLast counts items x
listed_stands_last counts items x = (λ h. stands_last counts items x (last_pairs_sound counts 0 items x h), back)
  where
    back : StandsLast counts items x → Contains (last_pairs_from counts 0 items) x
    back l =
        let e : x.place.item ≡ 0 + x.place.item = omega arith in
        let w : (y : PlacedPair) × Contains (last_pairs_from counts 0 items) y × (y.pair ≡ x.pair) =
        last_pairs_complete counts 0 items x.pair x.place.item x.place.decl (last_stands counts items x l) (subst (λ (n : ℕ). counts n ≡ true) e l.counted) in
        let same : w.0 ≡ x = place_is_one counts items w.0 x (stands_last counts items w.0 (last_pairs_sound counts 0 items w.0 w.1)) l w.2 in
        subst (λ (y : PlacedPair). Contains (last_pairs_from counts 0 items) y) same w.1

-- a pair that stands in an item that counts stands last somewhere
pub stands_last_somewhere : (counts : ℕ → Bool) (items : List Item) (p : Pair) (place : Place) → IsPairAt items p place → counts place.item ≡ true → (x : PlacedPair) × StandsLast counts items x × (x.pair ≡ p)
stands_last_somewhere counts items p place h c =
    let e : place.item ≡ 0 + place.item = omega arith in
    let w : (x : PlacedPair) × Contains (last_pairs_from counts 0 items) x × (x.pair ≡ p) = last_pairs_complete counts 0 items p place.item place.position h (subst (λ (n : ℕ). counts n ≡ true) e c) in
    (w.0, (listed_stands_last counts items w.0).0 w.1, w.2)
