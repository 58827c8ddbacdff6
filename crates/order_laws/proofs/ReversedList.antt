-- The list of what is reversed has exactly that, and where all of it is apart the sheet is kept.
use Rattle.std.proofs.Common.{◌≡◌, ◌↔◌, ◌⊎◌, ℕ, suc, zero, ◌+◌, Bool, true, not, List, [], ◌∷◌, map, Some, None, refl, sym, ap, ◌∙◌, subst, inl, inr, arith}
use Rattle.std.specs.Bool.{beq}
use Rattle.std.specs.Prelude.{slice_get}
use Rattle.std.specs.List.{All, Contains, filter, flat_map}
use Rattle.std.proofs.lemmas.Bool.{cond_both, and_parts, and_from, cond-true}
use Rattle.std.proofs.lemmas.List.Elements.{All-contains, Contains-append_left, Contains-append_right, Contains-append_cases}
use Rattle.cascade_laws.proofs.ForCallers.{some-same}
use Rattle.list_facts.proofs.Members.{Contains-here, Contains-there, Contains-nil, Contains-cons_cases, Contains-filter, Contains-filtered}
use Rattle.css_model.specs.declared.sheet.Item.{Item}
use Rattle.cascade_laws.specs.Families.{RelatingIsDecided}
use Rattle.css_model.specs.Sheets.KeptItems.{is_kept, kept_before}
use Rattle.css_model.specs.Cascade.Order.{Meet, Pair, WeighsKept, IsBefore, IsBeforeKept, Keeps}
use Rattle.order_laws.specs.Comparing.{comes_before, comes_before_kept, weigh, weighs_kept}
use Rattle.order_laws.specs.Members.{has_number}
use Rattle.order_laws.specs.Edits.{Moved, is_moved, Edit, edited, StandsIn, IsRearrangement}
use Rattle.order_laws.specs.Places.{PlacedPair, place_of, last_pairs, last_pairs_from, StandsLast}
use Rattle.order_laws.specs.Reversed.{Other, AnotherPair, KeptAt, Reversal, kept_from, is_reversed, is_reversed_kept, with_pair, with_kept, reversed_with, moved_pairs, reversed, IsReversedWith, IsApart}
use Rattle.order_laws.specs.Reversing.{Differ, ReversesPair, ReversesKept}
use Rattle.order_laws.proofs.Lists.{map_has, map_from, flat_map_has, flat_map_from}
use Rattle.order_laws.proofs.KeptNumbers.{kept_at, KeptPlace, place_of_kept}
use Rattle.order_laws.proofs.Rearranging.{rearranging_keeps}
use Rattle.order_laws.proofs.ReversedOrder.{ascending_from, ascending_has}
use Rattle.order_laws.proofs.ComparingTests.{weigh_is, weighs_kept_is, comes_before_is, comes_before_kept_is, differ_is}
use Rattle.order_laws.proofs.SheetPlaces.{last_stands, listed_stands_last, stands_last_somewhere}

-- ---- The kept items

abbrev numbered : ℕ → Item → ℕ × Item
numbered n item = (n, item)

kept_from_sound : (n : ℕ) (items : List Item) (k : ℕ × Item) → Contains (kept_from n items) k → (i : ℕ) × (k.0 ≡ n + i) × (slice_get items i ≡ Some k.1) × (is_kept k.1 ≡ true)
kept_from_sound n [] k = λ h. absurd (Contains-nil k h)
kept_from_sound n (item ∷ items) k =
    cond_both (is_kept item) (numbered n item ∷ kept_from (suc n) items) (kept_from (suc n) items) (λ ys. Contains ys k → (i : ℕ) × (k.0 ≡ n + i) × (slice_get (item ∷ items) i ≡ Some k.1) × (is_kept k.1 ≡ true))
    (λ kept h. which kept (kept_from_sound (suc n) items k) (Contains-cons_cases (numbered n item) (kept_from (suc n) items) k h))
    (λ other h. later (kept_from_sound (suc n) items k h))
  where
    later : (i : ℕ) × (k.0 ≡ suc n + i) × (slice_get items i ≡ Some k.1) × (is_kept k.1 ≡ true) → (i : ℕ) × (k.0 ≡ n + i) × (slice_get (item ∷ items) i ≡ Some k.1) × (is_kept k.1 ≡ true)
    later w = (suc w.0, omega (arith, w.1), w.2, w.3)

    which : is_kept item ≡ true → (Contains (kept_from (suc n) items) k → (i : ℕ) × (k.0 ≡ suc n + i) × (slice_get items i ≡ Some k.1) × (is_kept k.1 ≡ true)) →
        (numbered n item ≡ k) ⊎ Contains (kept_from (suc n) items) k → (i : ℕ) × (k.0 ≡ n + i) × (slice_get (item ∷ items) i ≡ Some k.1) × (is_kept k.1 ≡ true)
    which kept ih (inl e) =
        let number : n ≡ k.0 = ap (λ (w : ℕ × Item). w.0) e in
        (0, omega (arith, number), ap (λ (w : ℕ × Item). Some w.1) e, ap (λ (w : ℕ × Item). is_kept w.1) (sym e) ∙ kept)
    which kept ih (inr h) = later (ih h)

kept_from_complete : (n : ℕ) (items : List Item) (i : ℕ) (item : Item) → slice_get items i ≡ Some item → is_kept item ≡ true → Contains (kept_from n items) (numbered (n + i) item)
kept_from_complete n [] i item at kept = absurd (let e : None ≡ Some item = at in cc)
kept_from_complete n (x ∷ items) zero item at kept =
    let e : n ≡ n + 0 = omega arith in
    subst (λ (m : ℕ). Contains (kept_from n (x ∷ items)) (numbered m item)) e
    (subst (λ (y : Item). Contains (kept_from n (x ∷ items)) (numbered n y)) (some-same at)
    (subst (λ (ys : List (ℕ × Item)). Contains ys (numbered n x)) (sym (cond-true (is_kept x) (numbered n x ∷ kept_from (suc n) items) (kept_from (suc n) items) (ap is_kept (some-same at) ∙ kept)))
    (Contains-here (numbered n x) (kept_from (suc n) items))))
kept_from_complete n (x ∷ items) (suc i) item at kept =
    let e : suc n + i ≡ n + suc i = omega arith in
    let h : Contains (kept_from (suc n) items) (numbered (n + suc i) item) = subst (λ (m : ℕ). Contains (kept_from (suc n) items) (numbered m item)) e (kept_from_complete (suc n) items i item at kept) in
    cond_both (is_kept x) (numbered n x ∷ kept_from (suc n) items) (kept_from (suc n) items) (λ ys. Contains ys (numbered (n + suc i) item))
    (λ also. Contains-there (numbered n x) (kept_from (suc n) items) (numbered (n + suc i) item) h) (λ other. h)

-- ---- The entries

pairs_differ : (items items' : List Item) (p q : Pair) → (not (beq (comes_before items p q) (comes_before items' p q)) ≡ true) ↔ Differ (IsBefore items p q) (IsBefore items' p q)
pairs_differ items items' p q = differ_is (comes_before items p q) (comes_before items' p q) (IsBefore items p q) (IsBefore items' p q) (comes_before_is items p q) (comes_before_is items' p q)

kepts_differ : (items items' : List Item) (p : Pair) (number : ℕ) → (not (beq (comes_before_kept items p number) (comes_before_kept items' p number)) ≡ true) ↔ Differ (IsBeforeKept items p number) (IsBeforeKept items' p number)
kepts_differ items items' p number =
    differ_is (comes_before_kept items p number) (comes_before_kept items' p number) (IsBeforeKept items p number) (IsBeforeKept items' p number) (comes_before_kept_is items p number) (comes_before_kept_is items' p number)

abbrev by_pair : List Item → List Item → Pair → PlacedPair → Bool
by_pair items items' p q = is_reversed items items' p q.pair

pair_from : RelatingIsDecided → (items items' : List Item) (m : Moved) (p q : PlacedPair) → is_moved m p.pair ≡ true → Contains (filter (by_pair items items' p.pair) (last_pairs items)) q →
    IsReversedWith items items' m p.pair (AnotherPair q)
pair_from relating items items' m p q moved h =
    let w : Contains (last_pairs items) q × (is_reversed items items' p.pair q.pair ≡ true) = Contains-filter (by_pair items items' p.pair) (last_pairs items) q h in
    let stands : StandsLast (λ n. true) items q = (listed_stands_last (λ n. true) items q).0 w.0 in
    let b : (weigh p.pair q.pair ≡ true) × (not (beq (comes_before items p.pair q.pair) (comes_before items' p.pair q.pair)) ≡ true) =
    and_parts (weigh p.pair q.pair) (not (beq (comes_before items p.pair q.pair) (comes_before items' p.pair q.pair))) w.1 in (
      stands,
      record {
        moved = moved;
        there = (place_of q.place, last_stands (λ n. true) items q stands);
        weigh = (weigh_is relating p.pair q.pair).0 b.0;
        order = (pairs_differ items items' p.pair q.pair).0 b.1;
      },
    )

pair_has : RelatingIsDecided → (items items' : List Item) (m : Moved) (p q : PlacedPair) → IsReversedWith items items' m p.pair (AnotherPair q) → Contains (filter (by_pair items items' p.pair) (last_pairs items)) q
pair_has relating items items' m p q (stands, is) =
    Contains-filtered (by_pair items items' p.pair) (last_pairs items) q ((listed_stands_last (λ n. true) items q).1 stands)
    (and_from (weigh p.pair q.pair) (not (beq (comes_before items p.pair q.pair) (comes_before items' p.pair q.pair))) ((weigh_is relating p.pair q.pair).1 is.weigh) ((pairs_differ items items' p.pair q.pair).1 is.order))

kept_sound : RelatingIsDecided → (items items' : List Item) (m : Moved) (p : PlacedPair) (k : ℕ × Item) → is_moved m p.pair ≡ true → Contains (filter (is_reversed_kept items items' p.pair) (kept_from 0 items)) k →
    IsReversedWith items items' m p.pair (KeptAt k.0)
kept_sound relating items items' m p k moved h =
    let w : Contains (kept_from 0 items) k × (is_reversed_kept items items' p.pair k ≡ true) = Contains-filter (is_reversed_kept items items' p.pair) (kept_from 0 items) k h in
    let l : (i : ℕ) × (k.0 ≡ 0 + i) × (slice_get items i ≡ Some k.1) × (is_kept k.1 ≡ true) = kept_from_sound 0 items k w.0 in
    let e : l.0 ≡ k.0 = omega (arith, l.1) in
    let at : slice_get items k.0 ≡ Some k.1 = ap (slice_get items) (sym e) ∙ l.2 in
    let number : ℕ = kept_before k.0 items in
    let b : (weighs_kept p.pair k.1 ≡ true) × (not (beq (comes_before_kept items p.pair number) (comes_before_kept items' p.pair number)) ≡ true) =
    and_parts (weighs_kept p.pair k.1) (not (beq (comes_before_kept items p.pair number) (comes_before_kept items' p.pair number))) w.1 in (
      k.1,
      at,
      l.3,
      record {
        item = k.1;
        moved = moved;
        item_at = kept_at items k.0 k.1 at l.3;
        weighs = (weighs_kept_is relating p.pair k.1).0 b.0;
        order = (kepts_differ items items' p.pair number).0 b.1;
      },
    )

kept_has : RelatingIsDecided → (items items' : List Item) (m : Moved) (p : PlacedPair) (n : ℕ) → (is : IsReversedWith items items' m p.pair (KeptAt n)) → Contains (filter (is_reversed_kept items items' p.pair) (kept_from 0 items)) (numbered n is.0)
kept_has relating items items' m p n (item, at, kept, is) =
    let number : ℕ = kept_before n items in
    let same : is.item ≡ item = some-same (sym is.item_at ∙ kept_at items n item at kept) in
    let e : 0 + n ≡ n = omega arith in
    Contains-filtered (is_reversed_kept items items' p.pair) (kept_from 0 items) (numbered n item)
    (subst (λ (i : ℕ). Contains (kept_from 0 items) (numbered i item)) e (kept_from_complete 0 items n item at kept))
    (and_from (weighs_kept p.pair item) (not (beq (comes_before_kept items p.pair number) (comes_before_kept items' p.pair number)))
    ((weighs_kept_is relating p.pair item).1 (subst (λ (x : Item). WeighsKept p.pair x) same is.weighs)) ((kepts_differ items items' p.pair number).1 is.order))

-- what a moved pair is reversed with
with_from : RelatingIsDecided → (items items' : List Item) (m : Moved) (p : PlacedPair) (r : Reversal) → is_moved m p.pair ≡ true → Contains (reversed_with items items' p) r → (p ≡ r.moved) × IsReversedWith items items' m p.pair r.other
with_from relating items items' m p r moved h =
    which (Contains-append_cases (map (with_pair p) (filter (by_pair items items' p.pair) (last_pairs items))) (map (with_kept p) (filter (is_reversed_kept items items' p.pair) (kept_from 0 items))) r h)
  where
    which : Contains (map (with_pair p) (filter (by_pair items items' p.pair) (last_pairs items))) r ⊎ Contains (map (with_kept p) (filter (is_reversed_kept items items' p.pair) (kept_from 0 items))) r → (p ≡ r.moved) × IsReversedWith items items' m p.pair r.other
    which (inl g) =
        let q : (q : PlacedPair) × Contains (filter (by_pair items items' p.pair) (last_pairs items)) q × (with_pair p q ≡ r) = map_from (with_pair p) (filter (by_pair items items' p.pair) (last_pairs items)) r g in
        subst (λ (s : Reversal). (p ≡ s.moved) × IsReversedWith items items' m p.pair s.other) q.2 (refl, pair_from relating items items' m p q.0 moved q.1)
    which (inr g) =
        let k : (k : ℕ × Item) × Contains (filter (is_reversed_kept items items' p.pair) (kept_from 0 items)) k × (with_kept p k ≡ r) = map_from (with_kept p) (filter (is_reversed_kept items items' p.pair) (kept_from 0 items)) r g in
        subst (λ (s : Reversal). (p ≡ s.moved) × IsReversedWith items items' m p.pair s.other) k.2 (refl, kept_sound relating items items' m p k.0 moved k.1)

with_has : RelatingIsDecided → (items items' : List Item) (m : Moved) (p : PlacedPair) (o : Other) → IsReversedWith items items' m p.pair o → Contains (reversed_with items items' p) (record { moved = p; other = o })
with_has relating items items' m p (AnotherPair q) is =
    Contains-append_left (map (with_pair p) (filter (by_pair items items' p.pair) (last_pairs items))) (map (with_kept p) (filter (is_reversed_kept items items' p.pair) (kept_from 0 items))) (with_pair p q)
    (map_has (with_pair p) (filter (by_pair items items' p.pair) (last_pairs items)) q (pair_has relating items items' m p q is))
with_has relating items items' m p (KeptAt n) is =
    Contains-append_right (map (with_pair p) (filter (by_pair items items' p.pair) (last_pairs items))) (map (with_kept p) (filter (is_reversed_kept items items' p.pair) (kept_from 0 items))) (with_kept p (numbered n is.0))
    (map_has (with_kept p) (filter (is_reversed_kept items items' p.pair) (kept_from 0 items)) (numbered n is.0) (kept_has relating items items' m p n is))

-- ---- The laws

is_moved_by : (items items' : List Item) (m : Moved) (p : Pair) (o : Other) → IsReversedWith items items' m p o → is_moved m p ≡ true
is_moved_by items items' m p (AnotherPair q) is = is.1.moved
is_moved_by items items' m p (KeptAt n) is = is.3.moved

pub listed_is_reversed : RelatingIsDecided → (items items' : List Item) (m : Moved) (r : Reversal) →
    Contains (reversed items items' m) r ↔ (StandsLast (has_number m.out_of) items r.moved × IsReversedWith items items' m r.moved.pair r.other)
listed_is_reversed relating items items' m r = (there, back)
  where
    there : Contains (reversed items items' m) r → StandsLast (has_number m.out_of) items r.moved × IsReversedWith items items' m r.moved.pair r.other
    there h =
        let p : (p : PlacedPair) × Contains (moved_pairs items m) p × Contains (reversed_with items items' p) r =
        flat_map_from (reversed_with items items') (moved_pairs items m) r (ascending_from (flat_map (reversed_with items items') (moved_pairs items m)) r h) in
        let w : Contains (last_pairs_from (has_number m.out_of) 0 items) p.0 × (is_moved m p.0.pair ≡ true) = Contains-filter (λ q. is_moved m q.pair) (last_pairs_from (has_number m.out_of) 0 items) p.0 p.1 in
        let is : (p.0 ≡ r.moved) × IsReversedWith items items' m p.0.pair r.other = with_from relating items items' m p.0 r w.1 p.2 in
        subst (λ (q : PlacedPair). StandsLast (has_number m.out_of) items q × IsReversedWith items items' m q.pair r.other) is.0 ((listed_stands_last (has_number m.out_of) items p.0).0 w.0, is.1)

    back : StandsLast (has_number m.out_of) items r.moved × IsReversedWith items items' m r.moved.pair r.other → Contains (reversed items items' m) r
    back (stands, is) =
        ascending_has (flat_map (reversed_with items items') (moved_pairs items m)) r
        (flat_map_has (reversed_with items items') (moved_pairs items m) r.moved r
        (Contains-filtered (λ q. is_moved m q.pair) (last_pairs_from (has_number m.out_of) 0 items) r.moved ((listed_stands_last (has_number m.out_of) items r.moved).1 stands) (is_moved_by items items' m r.moved.pair r.other is))
        (with_has relating items items' m r.moved r.other is))

pub reversing_apart_keeps : RelatingIsDecided → (source : List ℕ) (items : List Item) (e : Edit) → IsRearrangement items e →
    All (λ r. IsApart r.moved.pair r.other) (reversed items (edited e items) e.moved) → Keeps source items source (edited e items)
reversing_apart_keeps relating source items e is apart = rearranging_keeps source items e is no_pair no_kept
  where
    each : (r : Reversal) → StandsLast (has_number e.moved.out_of) items r.moved × IsReversedWith items (edited e items) e.moved r.moved.pair r.other → IsApart r.moved.pair r.other
    each r h = All-contains (λ (s : Reversal). IsApart s.moved.pair s.other) (reversed items (edited e items) e.moved) r apart ((listed_is_reversed relating items (edited e items) e.moved r).1 h)

    placed : (p : Pair) → is_moved e.moved p ≡ true → (x : PlacedPair) × StandsLast (has_number e.moved.out_of) items x × (x.pair ≡ p)
    placed p moved = let w : StandsIn e.moved.out_of items p = is.from p moved in stands_last_somewhere (has_number e.moved.out_of) items p w.0 w.1 w.2

    no_pair : (p q : Pair) → ReversesPair items (edited e items) e.moved p q → Meet p.selector q.selector → ⊥
    no_pair p q reverses meet =
        let x : (x : PlacedPair) × StandsLast (has_number e.moved.out_of) items x × (x.pair ≡ p) = placed p reverses.moved in
        let y : (y : PlacedPair) × StandsLast (λ n. true) items y × (y.pair ≡ q) = stands_last_somewhere (λ n. true) items q reverses.there.0 reverses.there.1 refl in
        let there : ReversesPair items (edited e items) e.moved x.0.pair y.0.pair = subst (λ (s : Pair). ReversesPair items (edited e items) e.moved x.0.pair s) (sym y.2) (subst (λ (s : Pair). ReversesPair items (edited e items) e.moved s q) (sym x.2) reverses) in
        each (with_pair x.0 y.0) (x.1, (y.1, there)) (subst (λ (s : Pair). Meet x.0.pair.selector s.selector) (sym y.2) (subst (λ (s : Pair). Meet s.selector q.selector) (sym x.2) meet))

    no_kept : (p : Pair) (number : ℕ) → ReversesKept items (edited e items) e.moved p number → ⊥
    no_kept p number reverses =
        let x : (x : PlacedPair) × StandsLast (has_number e.moved.out_of) items x × (x.pair ≡ p) = placed p reverses.moved in
        let k : KeptPlace items number reverses.item = place_of_kept items number reverses.item reverses.item_at in
        let there : ReversesKept items (edited e items) e.moved x.0.pair (kept_before k.index items) =
        subst (λ (i : ℕ). ReversesKept items (edited e items) e.moved x.0.pair i) (sym k.number) (subst (λ (s : Pair). ReversesKept items (edited e items) e.moved s number) (sym x.2) reverses) in
        each (with_kept x.0 (numbered k.index reverses.item)) (x.1, (reverses.item, k.at, k.kept, there))
