-- What stops a step, in words of what it reverses.
use Rattle.std.proofs.Common.{◌≡◌, ◌≢◌, ◌⊎◌, inl, inr, ℕ, zero, suc, Bool, true, false, ◌&&◌, ◌||◌, cond, List, [], ◌∷◌, ◌++◌, map, length, Option, Some, None, refl, sym, ap, ap₂, subst, ◌∙◌, arith, eq-eqb}
use Rattle.std.specs.Prelude.{◌==◌, IsTrue, slice_get}
use Rattle.std.specs.List.{All, Contains, list_any}
use Rattle.std.proofs.Math.Bool.{or-false}
use Rattle.std.proofs.lemmas.Bool.{and_from, and_parts, eqb-true, false≢true, false_from_ne_true}
use Rattle.std.proofs.lemmas.List.Elements.{All-contains, All-contains_itself, All-weaker}
use Rattle.list_facts.proofs.Members.{Contains-nil, Contains-cons_cases}
use Rattle.blockers_text.proofs.Answered.{other_by}
use Rattle.blockers_text.proofs.Finding.{named_push}
use Rattle.blockers_text.proofs.Planning.{edit_stands}
use Rattle.blockers_text.proofs.Tallied.{AreDifferent, stopping_different}
use Rattle.blockers_text.specs.Later.{IsLater}
use Rattle.blockers_text.specs.Laws.{AloneWouldBeFree, IsApart, IsTold, OthersAreApart, item_reversed}
use Rattle.blockers_text.specs.Stopping.{AreSettled, AreSettledAfter, HasAnswer, IsSettled, AreAnswered, are_other, entries_of, has_item, is_kept_in, is_other, item_of, selector_at, selectors_in, stopping, stopping_after, stops, with_entry}
use Rattle.css_model.specs.declared.sheet.Item.{Item}
use Rattle.css_model.specs.declared.sheet.SelItem.{SelItem}
use Rattle.css_model.specs.Documents.SelectorParts.{SelectorParts}
use Rattle.order_laws.proofs.ForCallers.{any_from, any_of, map_from, map_has}
use Rattle.order_laws.specs.Edits.{Edit, Moved, edited}
use Rattle.order_laws.specs.Places.{PlacedPair, StandsLast}
use Rattle.order_laws.specs.Reversed.{ListedIsReversed, Other, AnotherPair, KeptAt, Reversal, reversed}
use Rattle.sheet_order.specs.declared.places.Reversed.{Reversed}
use Rattle.sheet_order.specs.Places.{entry_of, place_of}
use Rattle.sheet_order.specs.Taking.{rule_in}
use Rattle.step_laws.specs.declared.step.Step.{Step}
use Rattle.step_laws.specs.Free.{Answered, AreApart}

-- ---- Which items stop

abbrev stops_for : List Answered → List Item → ℕ → Reversed → Bool
stops_for answers items n r = item_of r == n && stops answers items r

with_named : (answers : List Answered) (items : List Item) (found : List Reversed) (r : Reversed) (n : ℕ) → has_item (with_entry answers items found r) n ≡ (has_item found n || stops_for answers items n r)
with_named answers items found r n = which (has_item found (item_of r)) (stops answers items r) refl
  where
    known : (s b : Bool) → (item_of r == n) ≡ b → has_item found (item_of r) ≡ true → has_item found n ≡ (has_item found n || (b && s))
    known s true e named =
        let here : has_item found n ≡ true = subst (λ (m : ℕ). has_item found m ≡ true) (eqb-true (item_of r) n e) named in
        here ∙ sym (ap (λ (b : Bool). b || (true && s)) here)
    known s false e named = sym (or-false (has_item found n))

    pushed : (a b : Bool) → (a || (b || false)) ≡ (a || (b && true))
    pushed true b = refl
    pushed false true = refl
    pushed false false = refl

    none : (a b : Bool) → a ≡ (a || (b && false))
    none true b = refl
    none false true = refl
    none false false = refl

    which : (named stop : Bool) → has_item found (item_of r) ≡ named → has_item (cond named found (cond stop (found ++ r ∷ []) found)) n ≡ (has_item found n || (item_of r == n && stop))
    which true stop e = known stop (item_of r == n) refl e
    which false true e = named_push found r n ∙ pushed (has_item found n) (item_of r == n)
    which false false e = none (has_item found n) (item_of r == n)

or_assoc : (a b c : Bool) → ((a || b) || c) ≡ (a || (b || c))
or_assoc true b c = refl
or_assoc false b c = refl

named_after : (answers : List Answered) (items : List Item) (found entries : List Reversed) (n : ℕ) → has_item (stopping_after answers items found entries) n ≡ (has_item found n || list_any (stops_for answers items n) entries)
named_after answers items found [] n = sym (or-false (has_item found n))
named_after answers items found (r ∷ entries) n =
    named_after answers items (with_entry answers items found r) entries n
    ∙ ap (λ (b : Bool). b || list_any (stops_for answers items n) entries) (with_named answers items found r n)
    ∙ or_assoc (has_item found n) (stops_for answers items n r) (list_any (stops_for answers items n) entries)

named_stays : (answers : List Answered) (items : List Item) (found entries : List Reversed) (n : ℕ) → has_item found n ≡ true → has_item (stopping_after answers items found entries) n ≡ true
named_stays answers items found entries n h = named_after answers items found entries n ∙ ap (λ (b : Bool). b || list_any (stops_for answers items n) entries) h

settled_each : (answers : List Answered) (items : List Item) (found entries : List Reversed) → AreSettledAfter answers items found entries → (r : Reversed) → Contains entries r →
    has_item (stopping_after answers items found entries) (item_of r) ≡ false → IsSettled answers items r
settled_each answers items found [] all r among none = absurd (Contains-nil r among)
settled_each answers items found (s ∷ entries) all r among none = elim (Contains-cons_cases s entries r among) [
  | inl same ↦ here (subst (λ (z : Reversed). IsTrue (has_item found (item_of z)) ⊎ IsSettled answers items z) same all.0)
  | inr more ↦ settled_each answers items (with_entry answers items found s) entries all.1 r more none
]
  where
    here : IsTrue (has_item found (item_of r)) ⊎ IsSettled answers items r → IsSettled answers items r
    here (inl named) = absurd (false≢true (sym none ∙ named_stays answers items found (s ∷ entries) (item_of r) named))
    here (inr settled) = settled

-- ---- What an entry of the list says

at_mapped : {X Y : Type 0} (f : X → Y) (xs : List X) (i : ℕ) (y : Y) → slice_get (map f xs) i ≡ Some y → (x : X) × (slice_get xs i ≡ Some x) × (f x ≡ y)
at_mapped f [] i y at = absurd (let e : None ≡ Some y = at in cc)
at_mapped f (x ∷ xs) zero y at = (x, refl, let e : Some (f x) ≡ Some y = at in cc)
at_mapped f (x ∷ xs) (suc i) y at = at_mapped f xs i y at

selector_there : (counts : ℕ → Bool) (items : List Item) (x : PlacedPair) → StandsLast counts items x → (s : SelItem) × (selector_at items (place_of x.place) ≡ Some s) × (s.selector ≡ x.pair.selector)
selector_there counts items x h =
    let w = at_mapped (λ (s : SelItem). s.selector) h.rule.selectors x.place.selector x.pair.selector h.selector_at in
    (w.0, ap (λ (o : Option Item). slice_get (selectors_in (rule_in o)) x.place.selector) h.rule_at ∙ w.1, w.2)

module _ (listed : ListedIsReversed) (answers : List Answered) (later : IsLater answers answers) (items items' : List Item) (m : Moved) where
  -- what a pair at its place is
  pair_stops : (counts counts' : ℕ → Bool) (x y : PlacedPair) → StandsLast counts items x → StandsLast counts' items y →
      are_other answers (selector_at items (place_of x.place)) (selector_at items (place_of y.place)) ≡ is_other answers x.pair.selector y.pair.selector
  pair_stops counts counts' x y first second =
      let s = selector_there counts items x first in
      let t = selector_there counts' items y second in
      ap₂ (are_other answers) s.1 t.1 ∙ ap₂ (is_other answers) s.2 t.2

  pair_settled : (counts counts' : ℕ → Bool) (x y : PlacedPair) → StandsLast counts items x → StandsLast counts' items y →
      AreAnswered answers (selector_at items (place_of x.place)) (selector_at items (place_of y.place)) → HasAnswer answers x.pair.selector y.pair.selector
  pair_settled counts counts' x y first second h =
      let s = selector_there counts items x first in
      let t = selector_there counts' items y second in
      let both : AreAnswered answers (Some s.0) (Some t.0) = subst (λ (o : Option SelItem). AreAnswered answers (Some s.0) o) t.1 (subst (λ (o : Option SelItem). AreAnswered answers o (selector_at items (place_of y.place))) s.1 h) in
      subst (λ (z : SelectorParts). HasAnswer answers x.pair.selector z) t.2 (subst (λ (z : SelectorParts). HasAnswer answers z t.0.selector) s.2 both)

  answered_apart : (x y : SelectorParts) → HasAnswer answers x y → is_other answers x y ≡ false → AreApart answers x y
  answered_apart x y (true, h) none = h
  answered_apart x y (false, h) none = absurd (false≢true (sym none ∙ other_by answers answers x y false later h))

  abbrev entry : PlacedPair → Other → Reversal
  entry moved o = record { moved = moved; other = o }

  -- an entry that is answered and does not stop is apart
  apart_by : (moved : PlacedPair) (o : Other) → Contains (reversed items items' m) (entry moved o) → stops answers items (entry_of (entry moved o)) ≡ false → IsSettled answers items (entry_of (entry moved o)) → IsApart answers (entry moved o)
  apart_by moved (AnotherPair q) among none settled =
      let there = (listed items items' m (entry moved (AnotherPair q))).0 among in
      answered_apart moved.pair.selector q.pair.selector (pair_settled _ _ moved q there.0 there.1.0 settled) (sym (pair_stops _ _ moved q there.0 there.1.0) ∙ none)
  apart_by moved (KeptAt n) among none settled =
      let there = (listed items items' m (entry moved (KeptAt n))).0 among in
      absurd (false≢true (sym none ∙ ap is_kept_in there.1.1 ∙ there.1.2))

  -- one that is apart does not stop
  apart_stops_not : (moved : PlacedPair) (o : Other) → Contains (reversed items items' m) (entry moved o) → IsApart answers (entry moved o) → stops answers items (entry_of (entry moved o)) ≡ false
  apart_stops_not moved (AnotherPair q) among apart =
      let there = (listed items items' m (entry moved (AnotherPair q))).0 among in
      pair_stops _ _ moved q there.0 there.1.0 ∙ other_by answers answers moved.pair.selector q.pair.selector true later apart
  apart_stops_not moved (KeptAt n) among apart = absurd apart

  abbrev rs : List Reversal
  rs = reversed items items' m

  abbrev by : List Reversed
  by = stopping answers items (map entry_of rs)

  -- ---- The first law

  others_apart : AreSettled answers items (map entry_of rs) → (n : ℕ) → has_item by n ≡ false → All (λ r. item_reversed r ≡ n → IsApart answers r) rs
  others_apart settled n none = All-weaker (Contains rs) (λ (r : Reversal). item_reversed r ≡ n → IsApart answers r) (λ r among same.
      let there : Contains (map entry_of rs) (entry_of r) = map_has entry_of rs r among in
      let not_named : has_item by (item_reversed r) ≡ false = subst (λ (k : ℕ). has_item by k ≡ false) (sym same) none in
      let stops_not : stops answers items (entry_of r) ≡ false = false_from_ne_true (stops answers items (entry_of r)) (λ stop.
      let any : list_any (stops_for answers items n) (map entry_of rs) ≡ true = any_of (stops_for answers items n) (map entry_of rs) (entry_of r) there (and_from (item_reversed r == n) (stops answers items (entry_of r)) (eq-eqb (item_reversed r) n same) stop) in
      false≢true (sym none ∙ named_after answers items [] (map entry_of rs) n ∙ any)) in
      apart_by r.moved r.other among stops_not (settled_each answers items [] (map entry_of rs) settled (entry_of r) there not_named)) rs (All-contains_itself rs)

  none_named : (n : ℕ) → All (λ r. item_reversed r ≡ n → IsApart answers r) rs → has_item by n ≡ false
  none_named n all = false_from_ne_true (has_item by n) (λ named.
      let any : list_any (stops_for answers items n) (map entry_of rs) ≡ true = sym (named_after answers items [] (map entry_of rs) n) ∙ named in
      let w = any_from (stops_for answers items n) (map entry_of rs) any in
      let both = and_parts (item_of w.0 == n) (stops answers items w.0) w.2 in
      let from = map_from entry_of rs w.0 w.1 in
      let same : item_reversed from.0 ≡ n = ap item_of from.2 ∙ eqb-true (item_of w.0) n both.0 in
      let apart : IsApart answers from.0 = All-contains (λ (r : Reversal). item_reversed r ≡ n → IsApart answers r) rs from.0 all from.1 same in
      false≢true (sym (apart_stops_not from.0.moved from.0.other from.1 apart) ∙ ap (stops answers items) from.2 ∙ both.1))

  -- ---- The second law

  one_named : (found : List Reversed) (n k : ℕ) → length found ≡ 1 → has_item found n ≡ true → k ≢ n → has_item found k ≡ false
  one_named [] n k one named other = absurd (omega (arith, one))
  one_named (s ∷ []) n k one named other = false_from_ne_true (item_of s == k || false) (λ also.
      other (sym (eqb-true (item_of s) k (sym (or-false (item_of s == k)) ∙ also)) ∙ eqb-true (item_of s) n (sym (or-false (item_of s == n)) ∙ named)))
  one_named (s ∷ t ∷ found) n k one named other = absurd (omega (arith, one))

  alone_free : AreSettled answers items (map entry_of rs) → (n : ℕ) → has_item by n ≡ true → length by ≡ 1 → All (λ r. item_reversed r ≢ n → IsApart answers r) rs
  alone_free settled n named one = All-weaker (Contains rs) (λ (r : Reversal). item_reversed r ≢ n → IsApart answers r) (λ r among other.
      All-contains (λ (q : Reversal). item_reversed q ≡ item_reversed r → IsApart answers q) rs r (others_apart settled (item_reversed r) (one_named by n (item_reversed r) one named other)) among refl) rs (All-contains_itself rs)

  -- each entry that is found names this item
  abbrev AllName : ℕ → List Reversed → Type 0
  AllName n found = (k : ℕ) → k ≢ n → has_item found k ≡ false

  name_head : (s : Reversed) (found : List Reversed) (n : ℕ) → AllName n (s ∷ found) → item_of s ≡ n
  name_head s found n all = which (item_of s == n) refl
    where
      which : (b : Bool) → (item_of s == n) ≡ b → item_of s ≡ n
      which true e = eqb-true (item_of s) n e
      which false e = absurd (false≢true (sym (all (item_of s) (λ same. false≢true (sym e ∙ eq-eqb (item_of s) n same))) ∙ ap (λ (b : Bool). b || has_item found (item_of s)) (eq-eqb (item_of s) (item_of s) refl)))

  name_tail : (s : Reversed) (found : List Reversed) (n : ℕ) → AllName n (s ∷ found) → AllName n found
  name_tail s found n all k other = second (item_of s == k) (has_item found k) (all k other)
    where
      second : (a b : Bool) → (a || b) ≡ false → b ≡ false
      second true b h = absurd (false≢true (sym h))
      second false b h = h

  only_one : (found : List Reversed) (n : ℕ) → AreDifferent found → has_item found n ≡ true → AllName n found → length found ≡ 1
  only_one [] n different named all = absurd (false≢true named)
  only_one (s ∷ []) n different named all = refl
  only_one (s ∷ t ∷ found) n different named all =
      let same : item_of t ≡ item_of s = name_head t found n (name_tail s (t ∷ found) n all) ∙ sym (name_head s (t ∷ found) n all) in
      absurd (false≢true (sym different.0 ∙ ap (λ (b : Bool). b || has_item found (item_of s)) (eq-eqb (item_of t) (item_of s) same)))

  free_alone : (n : ℕ) → has_item by n ≡ true → All (λ r. item_reversed r ≢ n → IsApart answers r) rs → length by ≡ 1
  free_alone n named all = only_one by n (stopping_different answers items (map entry_of rs)) named (λ k other.
      none_named k (All-weaker (λ (r : Reversal). item_reversed r ≢ n → IsApart answers r) (λ (r : Reversal). item_reversed r ≡ k → IsApart answers r) (λ r apart same. apart (λ e. other (sym same ∙ e))) rs all))

-- ---- The laws

module _ (listed : ListedIsReversed) (answers : List Answered) (items : List Item) (k : Step) (e : Edit) (told : IsTold answers items k e) where
  entries_by : entries_of items k ≡ map entry_of (reversed items (edited e items) e.moved)
  entries_by = ap (λ (d : Edit). map entry_of (reversed items (edited d items) d.moved)) (edit_stands items k e told.step)

  settled_by : AreSettled answers items (map entry_of (reversed items (edited e items) e.moved))
  settled_by = subst (AreSettled answers items) entries_by told.settled

pub others_are_apart : ListedIsReversed → OthersAreApart
others_are_apart listed answers items k e told n = (
  λ none. others_apart listed answers told.once items (edited e items) e.moved (settled_by listed answers items k e told) n
      (subst (λ (es : List Reversed). has_item (stopping answers items es) n ≡ false) (entries_by listed answers items k e told) none),
  λ all. subst (λ (es : List Reversed). has_item (stopping answers items es) n ≡ false) (sym (entries_by listed answers items k e told))
      (none_named listed answers told.once items (edited e items) e.moved n all),
)

pub alone_would_be_free : ListedIsReversed → AloneWouldBeFree
alone_would_be_free listed answers items k e told n named =
    let here : has_item (stopping answers items (map entry_of (reversed items (edited e items) e.moved))) n ≡ true =
    subst (λ (es : List Reversed). has_item (stopping answers items es) n ≡ true) (entries_by listed answers items k e told) named in (
      λ one. alone_free listed answers told.once items (edited e items) e.moved (settled_by listed answers items k e told) n here
          (subst (λ (es : List Reversed). length (stopping answers items es) ≡ 1) (entries_by listed answers items k e told) one),
      λ all. subst (λ (es : List Reversed). length (stopping answers items es) ≡ 1) (sym (entries_by listed answers items k e told))
          (free_alone listed answers told.once items (edited e items) e.moved n here all),
    )
