-- The couples of members by their places are those whose order differs.
use Rattle.std.proofs.Common.{◌≡◌, ℕ, zero, suc, ◌+◌, ◌<◌, ◌≤◌, Bool, true, false, not, List, [], ◌∷◌, ◌++◌, length, map, Option, Some, None, refl, sym, ap, ap₂, ◌∙◌, subst, inl, inr, arith}
use Rattle.std.specs.Bool.{beq}
use Rattle.std.specs.Prelude.{◌&&◌, ◌||◌, nat_lt, if◌then◌else◌, slice_get}
use Rattle.std.specs.List.{AllByRecursion, Contains, filter, find}
use Rattle.std.proofs.lemmas.Bool.{false≢true}
use Rattle.std.proofs.lemmas.Bool.Decides.{nat_tests}
use Rattle.list_facts.proofs.Members.{Contains-here, Contains-there}
use Rattle.cascade_laws.proofs.ForCallers.{some-same, weigh_back}
use Rattle.css_model.specs.declared.sheet.Item.{Item}
use Rattle.css_model.specs.declared.sheet.Item.TheVariants.{Rule, KeptRule, KeptBlock}
use Rattle.css_model.specs.Cascade.Order.{Pair, IsLast, IsBefore, IsBeforeKept}
use Rattle.css_model.specs.Cascade.Winner.{Place, IsLater}
use Rattle.css_model.specs.Sheets.KeptItems.{is_kept, kept_before, kept_items}
use Rattle.css_model.specs.Sheets.StyleRule.{selectors_of}
use Rattle.media_groups.specs.declared.media.Media.{Media}
use Rattle.order_laws.specs.Comparing.{OrderIsDecided, WeighingIsDecided, weigh, weighs_kept, comes_before, comes_before_kept}
use Rattle.order_laws.specs.Members.{same_pair}
use Rattle.order_laws.specs.Places.{PlacedPair, StandsLast, last_pairs, has_pair, place_of, ListedStandsLast}
use Rattle.order_laws.specs.Reversed.{kept_from}
use Rattle.sheet_order.proofs.ForCallers.{all_members, pair_is}
use Rattle.sheet_same.specs.declared.standing.Spot.{Spot}
use Rattle.overlap.specs.PairsParts.{Answered}
use Rattle.sheet_same.specs.declared.compared.Compared.{Compared}
use Rattle.sheet_same.specs.Compared.{found_in_parts, FoundBehind, IsFound}
use Rattle.sheet_same.specs.Judging.{IsJudged}
use Rattle.sheet_same.specs.Kept.{same_item, block_of, blocks_behind, differing_from, first_differing}
use Rattle.sheet_same.specs.Lacking.{lacking, first_lacking}
use Rattle.sheet_same.specs.Members.{Member, Paired, KeptAt, kept_member, members}
use Rattle.sheet_same.specs.Standing.{Standing, spot_of, spot_in, kept_at, standing_of, is_later, spots_differ, are_turned, couples_with, couples_of}
use Rattle.sheet_same.specs.Turned.{Couple, couple, is_turned, turned_from, turned}
use Rattle.sheet_same.proofs.Askable.{all_append, all_map, order_all}
use Rattle.sheet_same.proofs.NoneLacking.{at_has, not_lacking, none_lacking_each, AllNone, all_none}
use Rattle.sheet_same.proofs.Spots.{later_is, is_later_of}
use Rattle.sheet_same.proofs.Weighing.{both_test}

-- ---- Places

one_place : (items : List Item) (p : Pair) (a b : Place) → IsLast items p a → IsLast items p b → a ≡ b
one_place items p a b h g = ap₂ (λ (n m : ℕ). record { item = n; position = m }) item position
  where
    not_less : (m n : ℕ) → (m < n → ⊥) → n ≤ m
    not_less m n fails = which (nat_lt m n) refl
      where
        which : (t : Bool) → nat_lt m n ≡ t → n ≤ m
        which true e = absurd (fails (let g = e in grind (arith, nat_tests)))
        which false e = let g = e in grind (arith, nat_tests)

    item : a.item ≡ b.item
    item = let up = not_less b.item a.item (λ l. g.last a h.stands (inl l)) in let down = not_less a.item b.item (λ l. h.last b g.stands (inl l)) in omega (arith, up, down)

    position : a.position ≡ b.position
    position =
        let up = not_less b.position a.position (λ l. g.last a h.stands (inr (item, l))) in
        let down = not_less a.position b.position (λ l. h.last b g.stands (inr (sym item, l))) in
        omega (arith, up, down)

-- ---- Numbers of kept items

no_fewer : (items : List Item) (j k : ℕ) → j ≤ k → kept_before j items ≤ kept_before k items
no_fewer items zero k h = omega arith
no_fewer items (suc j) zero h = absurd (omega arith)
no_fewer [] (suc j) (suc k) h = omega arith
no_fewer (Rule r ∷ items) (suc j) (suc k) h = no_fewer items j k (omega arith)
no_fewer (KeptRule r ∷ items) (suc j) (suc k) h = let ih : kept_before j items ≤ kept_before k items = no_fewer items j k (omega arith) in omega arith
no_fewer (KeptBlock r ∷ items) (suc j) (suc k) h = let ih : kept_before j items ≤ kept_before k items = no_fewer items j k (omega arith) in omega arith

-- behind a kept item there is one more
one_more : (items : List Item) (j k : ℕ) (x : Item) → slice_get items j ≡ Some x → is_kept x ≡ true → j < k → kept_before j items < kept_before k items
one_more items j zero x at kept h = absurd (omega arith)
one_more [] j (suc k) x at kept h = absurd (let e : None ≡ Some x = at in cc)
one_more (Rule r ∷ items) zero (suc k) x at kept h = absurd (false≢true (ap is_kept (some-same at) ∙ kept))
one_more (Rule r ∷ items) (suc j) (suc k) x at kept h = one_more items j k x at kept (omega arith)
one_more (KeptRule r ∷ items) zero (suc k) x at kept h = omega arith
one_more (KeptRule r ∷ items) (suc j) (suc k) x at kept h = let ih : kept_before j items < kept_before k items = one_more items j k x at kept (omega arith) in omega arith
one_more (KeptBlock r ∷ items) zero (suc k) x at kept h = omega arith
one_more (KeptBlock r ∷ items) (suc j) (suc k) x at kept h = let ih : kept_before j items < kept_before k items = one_more items j k x at kept (omega arith) in omega arith

-- a kept item is one of them
below_all : (items : List Item) (n : ℕ) (x : Item) → slice_get items n ≡ Some x → is_kept x ≡ true → kept_before n items < length (kept_items items)
below_all [] n x at kept = absurd (let e : None ≡ Some x = at in cc)
below_all (Rule r ∷ items) zero x at kept = absurd (false≢true (ap is_kept (some-same at) ∙ kept))
below_all (Rule r ∷ items) (suc n) x at kept = below_all items n x at kept
below_all (KeptRule r ∷ items) zero x at kept = omega arith
below_all (KeptRule r ∷ items) (suc n) x at kept = let ih : kept_before n items < length (kept_items items) = below_all items n x at kept in omega arith
below_all (KeptBlock r ∷ items) zero x at kept = omega arith
below_all (KeptBlock r ∷ items) (suc n) x at kept = let ih : kept_before n items < length (kept_items items) = below_all items n x at kept in omega arith

behind_it : (m n : ℕ) → nat_lt m n ≡ false → (m ≡ n → ⊥) → n < m
behind_it m n e apart = which (nat_lt n m) refl
  where
    which : (t : Bool) → nat_lt n m ≡ t → n < m
    which true f = let g = f in grind (arith, nat_tests)
    which false f = absurd (apart (let up : n ≤ m = let g = e in grind (arith, nat_tests) in let down : m ≤ n = let g = f in grind (arith, nat_tests) in omega (arith, up, down)))

-- the kept item of a number
record IsKeptAt (first : ℕ) (items : List Item) (number n : ℕ) : Type 0 where
  index : ℕ
  item : Item
  is : n ≡ first + index
  at : slice_get items index ≡ Some item
  kept : is_kept item ≡ true
  before : kept_before index items ≡ number

kept_found : (first number : ℕ) (items : List Item) → number < length (kept_items items) → IsKeptAt first items number (kept_at first number items)
kept_found first number [] h = absurd (omega arith)
kept_found first zero (Rule r ∷ items) h =
    let k : IsKeptAt (suc first) items 0 (kept_at (suc first) 0 items) = kept_found (suc first) 0 items h in
    let i = k.is in record { index = suc k.index; item = k.item; is = omega (arith, i); at = k.at; kept = k.kept; before = k.before }
kept_found first (suc number) (Rule r ∷ items) h =
    let k : IsKeptAt (suc first) items (suc number) (kept_at (suc first) (suc number) items) = kept_found (suc first) (suc number) items h in
    let i = k.is in record { index = suc k.index; item = k.item; is = omega (arith, i); at = k.at; kept = k.kept; before = k.before }
kept_found first zero (KeptRule r ∷ items) h = record { index = 0; item = KeptRule r; is = omega arith; at = refl; kept = refl; before = refl }
kept_found first (suc number) (KeptRule r ∷ items) h =
    let k : IsKeptAt (suc first) items number (kept_at (suc first) number items) = kept_found (suc first) number items (omega arith) in
    let i = k.is in record { index = suc k.index; item = k.item; is = omega (arith, i); at = k.at; kept = k.kept; before = ap suc k.before }
kept_found first zero (KeptBlock r ∷ items) h = record { index = 0; item = KeptBlock r; is = omega arith; at = refl; kept = refl; before = refl }
kept_found first (suc number) (KeptBlock r ∷ items) h =
    let k : IsKeptAt (suc first) items number (kept_at (suc first) number items) = kept_found (suc first) number items (omega arith) in
    let i = k.is in record { index = suc k.index; item = k.item; is = omega (arith, i); at = k.at; kept = k.kept; before = ap suc k.before }

-- ---- Pairs

module _ (listed : ListedStandsLast) (order : OrderIsDecided) where
  last_is : (items : List Item) (x : PlacedPair) → Contains (last_pairs items) x → IsLast items x.pair (place_of x.place)
  last_is items x h =
      let s : StandsLast (λ n. true) items x = (listed (λ n. true) items x).0 h in
      record {
        stands = record {
          rule = s.rule;
          decl = s.item;
          rule_at = s.rule_at;
          selector_in = at_has (selectors_of s.rule) x.place.selector x.pair.selector s.selector_at;
          decl_at = s.decl_at;
          decl_is = s.decl_is;
        };
        last = λ other at later. s.last other at refl later;
      }

  comes_is : (items : List Item) (x y : PlacedPair) → Contains (last_pairs items) x → Contains (last_pairs items) y → comes_before items x.pair y.pair ≡ is_later (spot_of y.place) (spot_of x.place)
  comes_is items x y hx hy = both_test (comes_before items x.pair y.pair) (is_later (spot_of y.place) (spot_of x.place)) to from
    where
      to : comes_before items x.pair y.pair ≡ true → is_later (spot_of y.place) (spot_of x.place) ≡ true
      to h =
          let b : IsBefore items x.pair y.pair = (order.0 items x.pair y.pair).0 h in
          let first : b.place ≡ place_of x.place = one_place items x.pair b.place (place_of x.place) b.first (last_is items x hx) in
          let second : b.later ≡ place_of y.place = one_place items y.pair b.later (place_of y.place) b.second (last_is items y hy) in
          is_later_of (spot_of y.place) (spot_of x.place) (subst (λ (p : Place). IsLater p (place_of x.place)) second (subst (λ (p : Place). IsLater b.later p) first b.before))

      from : is_later (spot_of y.place) (spot_of x.place) ≡ true → comes_before items x.pair y.pair ≡ true
      from h = (order.0 items x.pair y.pair).1
          (record { place = place_of x.place; later = place_of y.place; first = last_is items x hx; second = last_is items y hy; before = later_is (spot_of y.place) (spot_of x.place) h })

  -- ---- Kept items

  rule_elsewhere : (items : List Item) (x : PlacedPair) (i : ℕ) (item : Item) → Contains (last_pairs items) x → slice_get items i ≡ Some item → is_kept item ≡ true → x.place.item ≡ i → ⊥
  rule_elsewhere items x i item hx at kept same =
      let s : StandsLast (λ n. true) items x = (listed (λ n. true) items x).0 hx in
      let e : Rule s.rule ≡ item = some-same (sym s.rule_at ∙ ap (slice_get items) same ∙ at) in
      false≢true (ap is_kept e ∙ kept)

  kept_is : (items : List Item) (x : PlacedPair) (i : ℕ) (item : Item) → Contains (last_pairs items) x → slice_get items i ≡ Some item → is_kept item ≡ true →
      comes_before_kept items x.pair (kept_before i items) ≡ nat_lt x.place.item i
  kept_is items x i item hx at kept = both_test (comes_before_kept items x.pair (kept_before i items)) (nat_lt x.place.item i) to from
    where
      to : comes_before_kept items x.pair (kept_before i items) ≡ true → nat_lt x.place.item i ≡ true
      to h =
          let b : IsBeforeKept items x.pair (kept_before i items) = (order.1 items x.pair (kept_before i items)).0 h in
          let same : b.place ≡ place_of x.place = one_place items x.pair b.place (place_of x.place) b.stands (last_is items x hx) in
          let few : kept_before x.place.item items ≤ kept_before i items = subst (λ (p : Place). kept_before p.item items ≤ kept_before i items) same b.before in
          which (nat_lt x.place.item i) refl few
        where
          which : (t : Bool) → nat_lt x.place.item i ≡ t → kept_before x.place.item items ≤ kept_before i items → t ≡ true
          which true e few = refl
          which false e few =
              let apart : x.place.item ≡ i → ⊥ = rule_elsewhere items x i item hx at kept in
              let less : i < x.place.item = behind_it x.place.item i e apart in
              let more : kept_before i items < kept_before x.place.item items = one_more items i x.place.item item at kept less in
              absurd (omega (arith, few, more))

      from : nat_lt x.place.item i ≡ true → comes_before_kept items x.pair (kept_before i items) ≡ true
      from h =
          let less : x.place.item ≤ i = let l = h in grind (arith, nat_tests) in
          (order.1 items x.pair (kept_before i items)).1 (record { place = place_of x.place; stands = last_is items x hx; before = no_fewer items x.place.item i less })

-- ---- Members

-- a member of the first sheet, which stands in the second one too
abbrev StandsThere : List Item → List Item → Member → Type 0
StandsThere s t (Paired x) = Contains (last_pairs s) x × (has_pair (last_pairs t) x.pair ≡ true)
StandsThere s t (KeptAt n item) = (slice_get s n ≡ Some item) × (is_kept item ≡ true) × (kept_before n s < length (kept_items t))

-- the pair of a place
record IsTwin (t : List Item) (p : Pair) (spot : Spot) : Type 0 where
  twin : PlacedPair
  listed : Contains (last_pairs t) twin
  same : twin.pair ≡ p
  is : spot ≡ spot_of twin.place

pub found_spot : (xs : List PlacedPair) (p : Pair) (x : PlacedPair) → Some x ≡ find (λ q. same_pair q.pair p) xs → spot_of x.place ≡ spot_in xs p
found_spot [] p x h = absurd (let e : Some x ≡ None = h in cc)
found_spot (y ∷ xs) p x h = which (same_pair y.pair p) h (λ g. found_spot xs p x g)
  where
    which : (b : Bool) → Some x ≡ (if b then Some y else find (λ q. same_pair q.pair p) xs) → (Some x ≡ find (λ q. same_pair q.pair p) xs → spot_of x.place ≡ spot_in xs p) → spot_of x.place ≡ (if b then spot_of y.place else spot_in xs p)
    which true g ih = ap (λ (z : PlacedPair). spot_of z.place) (some-same g)
    which false g ih = ih g

pub no_spot : (xs : List PlacedPair) (p : Pair) → None ≡ find (λ q. same_pair q.pair p) xs → record { item = 0; decl = 0 } ≡ spot_in xs p
no_spot [] p h = refl
no_spot (y ∷ xs) p h = which (same_pair y.pair p) h (λ g. no_spot xs p g)
  where
    nowhere : Spot
    nowhere = record { item = 0; decl = 0 }

    which : (b : Bool) → None ≡ (if b then Some y else find (λ q. same_pair q.pair p) xs) → (None ≡ find (λ q. same_pair q.pair p) xs → nowhere ≡ spot_in xs p) → nowhere ≡ (if b then spot_of y.place else spot_in xs p)
    which true g ih = absurd (let e : None ≡ Some y = g in cc)
    which false g ih = ih g

twin_in : (xs : List PlacedPair) (p : Pair) → has_pair xs p ≡ true → (x : PlacedPair) × Contains xs x × (x.pair ≡ p) × (spot_in xs p ≡ spot_of x.place)
twin_in [] p h = absurd (false≢true h)
twin_in (x ∷ xs) p h = which (same_pair x.pair p) refl h (λ g. twin_in xs p g)
  where
    Twin : Spot → Type 0
    Twin spot = (y : PlacedPair) × Contains (x ∷ xs) y × (y.pair ≡ p) × (spot ≡ spot_of y.place)

    which : (b : Bool) → same_pair x.pair p ≡ b → (b || has_pair xs p) ≡ true → (has_pair xs p ≡ true → (y : PlacedPair) × Contains xs y × (y.pair ≡ p) × (spot_in xs p ≡ spot_of y.place)) →
        Twin (if b then spot_of x.place else spot_in xs p)
    which true e g rest = (x, Contains-here x xs, pair_is x.pair p e, refl)
    which false e g rest = let w : (y : PlacedPair) × Contains xs y × (y.pair ≡ p) × (spot_in xs p ≡ spot_of y.place) = rest g in (w.0, Contains-there x xs w.0 w.1, w.2, w.3)

-- ---- Tests

-- the order of two and of the same two the other way round
two_ways : (a a' b b' w w' : Bool) → w' ≡ w → ((not (beq a a') || not (beq b b')) && w) ≡ ((w && not (beq a a')) || (w' && not (beq b b')))
two_ways a a' b b' true w' e = one a a' b b' ∙ ap (λ (z : Bool). not (beq a a') || (z && not (beq b b'))) (sym e)
  where
    one : (a a' b b' : Bool) → ((not (beq a a') || not (beq b b')) && true) ≡ (not (beq a a') || not (beq b b'))
    one a a' b b' = which (not (beq a a') || not (beq b b'))
      where
        which : (z : Bool) → (z && true) ≡ z
        which true = refl
        which false = refl
two_ways a a' b b' false w' e = which (not (beq a a') || not (beq b b')) ∙ ap (λ (z : Bool). false || (z && not (beq b b'))) (sym e)
  where
    which : (z : Bool) → (z && false) ≡ false
    which true = refl
    which false = refl

one_way : (a a' w : Bool) → ((not (beq a a') || not (beq (not a) (not a'))) && w) ≡ (w && not (beq a a'))
one_way true true true = refl
one_way true true false = refl
one_way true false true = refl
one_way true false false = refl
one_way false true true = refl
one_way false true false = refl
one_way false false true = refl
one_way false false false = refl

other_way : (a a' w : Bool) → ((not (beq (not a) (not a')) || not (beq a a')) && w) ≡ (w && not (beq a a'))
other_way true true true = refl
other_way true true false = refl
other_way true false true = refl
other_way true false false = refl
other_way false true true = refl
other_way false true false = refl
other_way false false true = refl
other_way false false false = refl

never : (a : Bool) → (a && false) ≡ false
never true = refl
never false = refl

abbrev kept_spot : ℕ → Spot
kept_spot n = record { item = n; decl = 0 }

-- a kept item is later than a pair where its item is
kept_later : (n : ℕ) (x : Spot) → is_later (kept_spot n) x ≡ nat_lt x.item n
kept_later n x = both_test (is_later (kept_spot n) x) (nat_lt x.item n) to from
  where
    to : is_later (kept_spot n) x ≡ true → nat_lt x.item n ≡ true
    to h = let g = h in grind (arith, nat_tests)

    from : nat_lt x.item n ≡ true → is_later (kept_spot n) x ≡ true
    from h = let g = h in grind (arith, nat_tests)

pair_later : (n : ℕ) (x : Spot) → (x.item ≡ n → ⊥) → is_later x (kept_spot n) ≡ not (nat_lt x.item n)
pair_later n x apart = which (nat_lt x.item n) refl (nat_lt n x.item) refl
  where
    which : (b : Bool) → nat_lt x.item n ≡ b → (c : Bool) → nat_lt n x.item ≡ c → is_later x (kept_spot n) ≡ not b
    which true e c f = let g = e in grind (arith, nat_tests)
    which false e true f = let g = f in grind (arith, nat_tests)
    which false e false f = absurd (apart (let up : n ≤ x.item = let g = e in grind (arith, nat_tests) in let down : x.item ≤ n = let g = f in grind (arith, nat_tests) in omega (arith, up, down)))

-- ---- Two members

module _ (listed : ListedStandsLast) (order : OrderIsDecided) (weighing : WeighingIsDecided) (s t : List Item) where
  weigh_both : (p q : Pair) → weigh q p ≡ weigh p q
  weigh_both p q = both_test (weigh q p) (weigh p q) (turn q p) (turn p q)
    where
      turn : (a b : Pair) → weigh a b ≡ true → weigh b a ≡ true
      turn a b h = (weighing.0 b a).1 (weigh_back a b ((weighing.0 a b).0 h))

  -- where a pair stands in the second sheet
  twin_of : (x : PlacedPair) → has_pair (last_pairs t) x.pair ≡ true → IsTwin t x.pair (spot_in (last_pairs t) x.pair)
  twin_of x h = let w = twin_in (last_pairs t) x.pair h in record { twin = w.0; listed = w.1; same = w.2; is = w.3 }

  comes_there : (x y : PlacedPair) → has_pair (last_pairs t) x.pair ≡ true → has_pair (last_pairs t) y.pair ≡ true →
      comes_before t x.pair y.pair ≡ is_later (spot_in (last_pairs t) y.pair) (spot_in (last_pairs t) x.pair)
  comes_there x y hx hy =
      let u : IsTwin t x.pair (spot_in (last_pairs t) x.pair) = twin_of x hx in
      let v : IsTwin t y.pair (spot_in (last_pairs t) y.pair) = twin_of y hy in
      ap₂ (λ (p q : Pair). comes_before t p q) (sym u.same) (sym v.same) ∙ comes_is listed order t u.twin v.twin u.listed v.listed ∙ ap₂ (λ (a b : Spot). is_later a b) (sym v.is) (sym u.is)

  pairs_are : (x y : PlacedPair) → StandsThere s t (Paired x) → StandsThere s t (Paired y) → are_turned (standing_of s t (Paired x)) (standing_of s t (Paired y)) ≡ is_turned s t (Paired x) (Paired y)
  pairs_are x y hx hy =
      ap₂ (λ (a a' : Bool). (not (beq a a') || not (beq (is_later (spot_of x.place) (spot_of y.place)) (is_later sx sy))) && weigh x.pair y.pair)
      (sym (comes_is listed order s x y hx.0 hy.0)) (sym (comes_there x y hx.1 hy.1))
      ∙ ap₂ (λ (b b' : Bool). (not (beq (comes_before s x.pair y.pair) (comes_before t x.pair y.pair)) || not (beq b b')) && weigh x.pair y.pair)
      (sym (comes_is listed order s y x hy.0 hx.0)) (sym (comes_there y x hy.1 hx.1))
      ∙ two_ways (comes_before s x.pair y.pair) (comes_before t x.pair y.pair) (comes_before s y.pair x.pair) (comes_before t y.pair x.pair) (weigh x.pair y.pair) (weigh y.pair x.pair) (weigh_both x.pair y.pair)
    where
      sx : Spot
      sx = spot_in (last_pairs t) x.pair

      sy : Spot
      sy = spot_in (last_pairs t) y.pair

  -- a pair and a kept item, by their places
  record IsKeptOrder (x : PlacedPair) (n : ℕ) : Type 0 where
    here : comes_before_kept s x.pair (kept_before n s) ≡ is_later (kept_spot n) (spot_of x.place)
    there : comes_before_kept t x.pair (kept_before n s) ≡ is_later (kept_spot (kept_at 0 (kept_before n s) t)) (spot_in (last_pairs t) x.pair)
    here_back : is_later (spot_of x.place) (kept_spot n) ≡ not (is_later (kept_spot n) (spot_of x.place))
    there_back : is_later (spot_in (last_pairs t) x.pair) (kept_spot (kept_at 0 (kept_before n s) t)) ≡ not (is_later (kept_spot (kept_at 0 (kept_before n s) t)) (spot_in (last_pairs t) x.pair))

  kept_order : (x : PlacedPair) (n : ℕ) (item : Item) → StandsThere s t (Paired x) → StandsThere s t (KeptAt n item) → IsKeptOrder x n
  kept_order x n item hx hk = record {
    here = kept_is listed order s x n item hx.0 hk.0 hk.1 ∙ sym (kept_later n (spot_of x.place));
    there = there;
    here_back = pair_later n (spot_of x.place) (rule_elsewhere listed order s x n item hx.0 hk.0 hk.1) ∙ ap not (sym (kept_later n (spot_of x.place)));
    there_back = pair_later place spot apart ∙ ap not (sym (kept_later place spot));
  }
    where
      number : ℕ
      number = kept_before n s

      place : ℕ
      place = kept_at 0 number t

      spot : Spot
      spot = spot_in (last_pairs t) x.pair

      k : IsKeptAt 0 t number place
      k = kept_found 0 number t hk.2

      u : IsTwin t x.pair spot
      u = twin_of x hx.1

      index : k.index ≡ place
      index = let i = k.is in omega (arith, i)

      there : comes_before_kept t x.pair number ≡ is_later (kept_spot place) spot
      there =
          ap₂ (λ (p : Pair) (m : ℕ). comes_before_kept t p m) (sym u.same) (sym k.before)
          ∙ kept_is listed order t u.twin k.index k.item u.listed k.at k.kept
          ∙ ap₂ (λ (m : ℕ) (z : Spot). nat_lt z.item m) index (sym u.is)
          ∙ sym (kept_later place spot)

      apart : spot.item ≡ place → ⊥
      apart e = rule_elsewhere listed order t u.twin k.index k.item u.listed k.at k.kept (ap (λ (z : Spot). z.item) (sym u.is) ∙ e ∙ sym index)

  pair_kept_are : (x : PlacedPair) (n : ℕ) (item : Item) → StandsThere s t (Paired x) → StandsThere s t (KeptAt n item) → are_turned (standing_of s t (Paired x)) (standing_of s t (KeptAt n item)) ≡ is_turned s t (Paired x) (KeptAt n item)
  pair_kept_are x n item hx hk =
      let o : IsKeptOrder x n = kept_order x n item hx hk in
      let a : Bool = is_later (kept_spot n) (spot_of x.place) in
      let a' : Bool = is_later (kept_spot (kept_at 0 (kept_before n s) t)) (spot_in (last_pairs t) x.pair) in
      let w : Bool = weighs_kept x.pair item in
      ap₂ (λ (b b' : Bool). (not (beq a a') || not (beq b b')) && w) o.here_back o.there_back ∙ one_way a a' w ∙ ap₂ (λ (b b' : Bool). w && not (beq b b')) (sym o.here) (sym o.there)

  kept_pair_are : (x : PlacedPair) (n : ℕ) (item : Item) → StandsThere s t (Paired x) → StandsThere s t (KeptAt n item) → are_turned (standing_of s t (KeptAt n item)) (standing_of s t (Paired x)) ≡ is_turned s t (KeptAt n item) (Paired x)
  kept_pair_are x n item hx hk =
      let o : IsKeptOrder x n = kept_order x n item hx hk in
      let a : Bool = is_later (kept_spot n) (spot_of x.place) in
      let a' : Bool = is_later (kept_spot (kept_at 0 (kept_before n s) t)) (spot_in (last_pairs t) x.pair) in
      let w : Bool = weighs_kept x.pair item in
      ap₂ (λ (b b' : Bool). (not (beq b b') || not (beq a a')) && w) o.here_back o.there_back ∙ other_way a a' w ∙ ap₂ (λ (b b' : Bool). w && not (beq b b')) (sym o.here) (sym o.there)

  members_are : (m x : Member) → StandsThere s t m → StandsThere s t x → are_turned (standing_of s t m) (standing_of s t x) ≡ is_turned s t m x
  members_are (Paired x) (Paired y) hm hx = pairs_are x y hm hx
  members_are (Paired x) (KeptAt n item) hm hx = pair_kept_are x n item hm hx
  members_are (KeptAt n item) (Paired y) hm hx = kept_pair_are y n item hx hm
  members_are (KeptAt n item) (KeptAt k other) hm hx = never (spots_differ (standing_of s t (KeptAt n item)) (standing_of s t (KeptAt k other)))

  -- ---- All couples

  with_are : (m : Member) (xs : List Member) → StandsThere s t m → AllByRecursion (StandsThere s t) xs → couples_with (standing_of s t m) (map (standing_of s t) xs) ≡ map (couple m) (filter (is_turned s t m) xs)
  with_are m [] hm hxs = refl
  with_are m (x ∷ xs) hm hxs = ap (λ (b : Bool). map (λ (y : Standing). couple (standing_of s t m).member y.member) (if b then standing_of s t x ∷ rest else rest)) (members_are m x hm hxs.0) ∙ which (is_turned s t m x) (with_are m xs hm hxs.1)
    where
      member_is : (z : Member) → (standing_of s t z).member ≡ z
      member_is (Paired z) = refl
      member_is (KeptAt n item) = refl

      rest : List Standing
      rest = filter (are_turned (standing_of s t m)) (map (standing_of s t) xs)

      which : (b : Bool) → couples_with (standing_of s t m) (map (standing_of s t) xs) ≡ map (couple m) (filter (is_turned s t m) xs) →
          map (λ (y : Standing). couple (standing_of s t m).member y.member) (if b then standing_of s t x ∷ rest else rest) ≡ map (couple m) (if b then x ∷ filter (is_turned s t m) xs else filter (is_turned s t m) xs)
      which true ih = ap₂ (λ (c : Couple) (cs : List Couple). c ∷ cs) (ap₂ couple (member_is m) (member_is x)) ih
      which false ih = ih

  couples_are : (ms : List Member) → AllByRecursion (StandsThere s t) ms → couples_of (map (standing_of s t) ms) ≡ turned_from s t ms
  couples_are [] h = refl
  couples_are (m ∷ ms) h = ap₂ (λ (xs ys : List Couple). xs ++ ys) (with_are m ms h.0 h.1) (couples_are ms h.1)

-- ---- The members of sheets with the same parts

as_many : (n : ℕ) (source : List ℕ) (media : List Media) (xs : List Item) (other : List ℕ) (media' : List Media) (ys : List Item) → differing_from n source media xs other media' ys ≡ None → length xs ≡ length ys
as_many n source media [] other media' [] h = refl
as_many n source media [] other media' (y ∷ ys) h = absurd (let e : Some n ≡ None = h in cc)
as_many n source media (x ∷ xs) other media' [] h = absurd (let e : Some n ≡ None = h in cc)
as_many n source media (x ∷ xs) other media' (y ∷ ys) h =
    which (same_item source (block_of media x) x other (block_of media' y) y) h (λ g. as_many (suc n) source (blocks_behind media x) xs other (blocks_behind media' y) ys g)
  where
    rest : Option ℕ
    rest = differing_from (suc n) source (blocks_behind media x) xs other (blocks_behind media' y) ys

    which : (b : Bool) → (if b then rest else Some n) ≡ None → (rest ≡ None → length xs ≡ length ys) → suc (length xs) ≡ suc (length ys)
    which true g ih = ap suc (ih g)
    which false g ih = absurd (let e : Some n ≡ None = g in cc)

-- what kept items with their numbers are
kept_there : (n : ℕ) (items whole : List Item) → ((i : ℕ) → slice_get whole (n + i) ≡ slice_get items i) → AllByRecursion (λ k. (slice_get whole k.0 ≡ Some k.1) × (is_kept k.1 ≡ true)) (kept_from n items)
kept_there n [] whole h = tt
kept_there n (x ∷ items) whole h = which x (h 0) (kept_there (suc n) items whole later)
  where
    later : (i : ℕ) → slice_get whole (suc n + i) ≡ slice_get items i
    later i = let e : suc n + i ≡ n + suc i = omega arith in ap (slice_get whole) e ∙ h (suc i)

    P : ℕ × Item → Type 0
    P k = (slice_get whole k.0 ≡ Some k.1) × (is_kept k.1 ≡ true)

    here : n + 0 ≡ n
    here = omega arith

    which : (z : Item) → slice_get whole (n + 0) ≡ Some z → AllByRecursion P (kept_from (suc n) items) → AllByRecursion P (kept_from n (z ∷ items))
    which (Rule r) at rest = rest
    which (KeptRule k) at rest = ((ap (slice_get whole) (sym here) ∙ at, refl), rest)
    which (KeptBlock piece) at rest = ((ap (slice_get whole) (sym here) ∙ at, refl), rest)

all_both : {X : Type 0} (P Q R : X → Type 0) → ((x : X) → P x → Q x → R x) → (xs : List X) → AllByRecursion P xs → AllByRecursion Q xs → AllByRecursion R xs
all_both P Q R f [] h g = tt
all_both P Q R f (x ∷ xs) h g = (f x h.0 g.0, all_both P Q R f xs h.1 g.1)

all_weaker : {X : Type 0} (P Q : X → Type 0) → ((x : X) → P x → Q x) → (xs : List X) → AllByRecursion P xs → AllByRecursion Q xs
all_weaker P Q f [] h = tt
all_weaker P Q f (x ∷ xs) h = (f x h.0, all_weaker P Q f xs h.1)

-- what the members of a sheet are
abbrev pub IsOf : List Item → Member → Type 0
IsOf s (Paired x) = Contains (last_pairs s) x
IsOf s (KeptAt n item) = (slice_get s n ≡ Some item) × (is_kept item ≡ true)

pub members_of : (s : List Item) → AllByRecursion (IsOf s) (members s)
members_of s =
    order_all (IsOf s) (map Paired (last_pairs s) ++ map kept_member (kept_from 0 s))
    (all_append (IsOf s) (map Paired (last_pairs s)) (map kept_member (kept_from 0 s))
    (all_map (IsOf s) Paired (last_pairs s) (all_members (λ x. Contains (last_pairs s) x) (last_pairs s) (λ x h. h)))
    (all_map (IsOf s) kept_member (kept_from 0 s)
    (all_weaker (λ (k : ℕ × Item). (slice_get s k.0 ≡ Some k.1) × (is_kept k.1 ≡ true)) (λ k. IsOf s (kept_member k)) (λ k h. h) (kept_from 0 s)
    (kept_there 0 s s (λ i. let e : 0 + i ≡ i = omega arith in ap (slice_get s) e)))))

pub couples_turned : ListedStandsLast → OrderIsDecided → WeighingIsDecided → (source : List ℕ) (media : List Media) (s : List Item) (other : List ℕ) (media' : List Media) (t : List Item) →
    found_in_parts source media s other media' t ≡ None → couples_of (map (standing_of s t) (members s)) ≡ turned s t
couples_turned listed order weighing source media s other media' t none =
    couples_are listed order weighing s t (members s)
    (all_both (IsOf s) (λ m. lacking (last_pairs t) m ≡ None) (StandsThere s t) both (members s) (members_of s) (none_lacking_each (last_pairs t) (members s) parts.first))
  where
    parts : AllNone (first_lacking (last_pairs t) (members s)) (first_lacking (last_pairs s) (members t)) (first_differing source media s other media' t)
    parts = all_none (first_lacking (last_pairs t) (members s)) (first_lacking (last_pairs s) (members t)) (first_differing source media s other media' t) none

    many : length (kept_items s) ≡ length (kept_items t)
    many = as_many 0 source media (kept_items s) other media' (kept_items t) parts.third

    both : (m : Member) → IsOf s m → lacking (last_pairs t) m ≡ None → StandsThere s t m
    both (Paired x) of there = (of, not_lacking (last_pairs t) x there)
    both (KeptAt n item) of there = (of.0, of.1, let below : kept_before n s < length (kept_items s) = below_all s n item of.0 of.1 in omega (arith, below, many))

-- what is found in these couples is found
found_behind_parts : ListedStandsLast → OrderIsDecided → WeighingIsDecided → (held : List Answered) (source : List ℕ) (media : List Media) (s : List Item) (other : List ℕ) (media' : List Media) (t : List Item) (ms : List Standing) (found : Option Compared) →
    found_in_parts source media s other media' t ≡ None → ms ≡ map (standing_of s t) (members s) → IsJudged held s (couples_of ms) found → IsFound held source media s other media' t found
found_behind_parts listed order weighing held source media s other media' t ms found none are h =
    subst (λ (o : Option Compared). FoundBehind held s t o found) (sym none)
    (subst (λ (cs : List Couple). IsJudged held s cs found) (ap couples_of are ∙ couples_turned listed order weighing source media s other media' t none) h)

-- so it is in sheets and members that are these
pub found_behind_twins : ListedStandsLast → OrderIsDecided → WeighingIsDecided → (held : List Answered) (source : List ℕ) (media : List Media) (s : List Item) (other : List ℕ) (media' : List Media) (t s' t' : List Item) (ms : List Member) (found : Option Compared) →
    found_in_parts source media s other media' t ≡ None → s' ≡ s → t' ≡ t → ms ≡ members s → IsJudged held s' (couples_of (map (standing_of s' t') ms)) found → IsFound held source media s other media' t found
found_behind_twins listed order weighing held source media s other media' t s' t' ms found none first second are h =
    found_behind_parts listed order weighing held source media s other media' t (map (standing_of s t) ms) found none (ap (map (standing_of s t)) are)
    (subst (λ (xs : List Item). IsJudged held xs (couples_of (map (standing_of xs t) ms)) found) first
    (subst (λ (ys : List Item). IsJudged held s' (couples_of (map (standing_of s' ys) ms)) found) second h))
