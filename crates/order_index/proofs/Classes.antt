-- Classes of entries on the way outward: which there are, and in which order.
use Rattle.std.proofs.Common.{◌≡◌, ℕ, ◌<◌, true, false, List, length, Option, Some, Result, IfOk, refl, sym, ap, ap₂, ◌∙◌, arith}
use Rattle.std.specs.Prelude.{slice_get}
use Rattle.std.specs.List.{Contains}
use Rattle.std.proofs.lemmas.Bool.{false≢true}
use Rattle.std.proofs.lemmas.Option.{slice_get_read}
use Rattle.cascade_laws.proofs.ForCallers.{some-same}
use Rattle.css_model.specs.Cascade.Winner.{exceeds}
use Rattle.css_model.specs.declared.sheet.Item.{Item}
use Rattle.css_model.specs.Sheets.KeptItems.{is_kept}
use Rattle.list_facts.proofs.Elements.{member}
use Rattle.order_index.proofs.Around.{member_at}
use Rattle.order_index.proofs.EntryFacts.{kept_of_entry, moved_of_entry, pair_of_entry, pair_rule}
use Rattle.order_index.proofs.KeyOrder.{by_far, by_item, by_moved, by_pair}
use Rattle.order_index.proofs.PlaceOrder.{last_rise, rise_at, rise_filter}
use Rattle.order_index.specs.Afterwards.{edit_at}
use Rattle.order_index.specs.Places.{ArePlaces}
use Rattle.order_index.proofs.Telling.{told_as, told_as_ok}
use Rattle.order_index.specs.Told.{IsAt, IsAtPlace, IsAtSome, IsFar, IsOfMoved, IsToldOf, IsWith, IsWithPair, far_of, moved_by, reversed_by}
use Rattle.order_index.specs.Others.{AreAt, Rise}
use Rattle.order_laws.specs.Comparing.{OrderIsDecided, WeighingIsDecided}
use Rattle.order_laws.specs.Edits.{is_moved}
use Rattle.order_laws.specs.Members.{has_number}
use Rattle.order_laws.specs.Places.{ListedStandsLast, PlacedPair, last_pairs, last_pairs_from}
use Rattle.order_laws.specs.Reversed.{AnotherPair, KeptAt, ListedIsReversed, Other, Reversal, distance, other_place, sort_key}
use Rattle.overlap.specs.PairsParts.{Answered}
use Rattle.sheet_order.specs.declared.permitting.Allowed.{Allowed}
use Rattle.step_laws.specs.declared.step.Step.{Step}

-- the number of a member
at_number : (ps : List PlacedPair) (p : PlacedPair) → Contains ps p → (i : ℕ) × (i < length ps) × (slice_get ps i ≡ Some p)
at_number ps p there = (there.0, there.1, slice_get_read ps (length ps) there.0 p refl there.1 (sym there.2))

-- ---- One moved pair and another one

module _ (items : List Item) (k : Step) (o : Other) (far n : ℕ) (p : PlacedPair) (at : slice_get (moved_by items k) n ≡ Some p) where
  -- the entry that such a class has
  pub entry_is : (r : Reversal) → IsOfMoved (moved_by items k) o far n r → r ≡ record { moved = p; other = o }
  entry_is r of = ap₂ (λ (x : PlacedPair) (y : Other). record { moved = x; other = y }) (some-same (sym of.0 ∙ at)) of.1.0

  pub entry_far : (r : Reversal) → IsOfMoved (moved_by items k) o far n r → distance (other_place o).item p.place.item ≡ far
  entry_far r of = ap far_of (sym (entry_is r of)) ∙ of.1.1

  pub is_entry : distance (other_place o).item p.place.item ≡ far → (r : Reversal) → r ≡ record { moved = p; other = o } → IsOfMoved (moved_by items k) o far n r
  is_entry is r same = (at ∙ ap (λ (x : Reversal). Some x.moved) (sym same), (ap (λ (x : Reversal). x.other) same, ap far_of same ∙ is))

-- ---- The moved pairs

module _ (listed : ListedIsReversed) (stands : ListedStandsLast) (items : List Item) (k : Step) where
  moved_rise : Rise (moved_by items k)
  moved_rise = rise_filter (λ p. is_moved (edit_at items k).moved p.pair) (last_pairs_from (has_number (edit_at items k).moved.out_of) 0 items) (last_rise (has_number (edit_at items k).moved.out_of) 0 items)

  pub moved_cover : (o : Other) (far : ℕ) (s : Reversal) → Contains (reversed_by items k) s → IsWith o far s → (i : ℕ) × (i < length (moved_by items k)) × IsOfMoved (moved_by items k) o far i s
  moved_cover o far s there of = let w = at_number (moved_by items k) s.moved (moved_of_entry listed stands items k s there) in (w.0, w.1, (w.2, of))

  pub moved_order : (o : Other) (far i j : ℕ) (r s : Reversal) → i < j → IsOfMoved (moved_by items k) o far i r → IsOfMoved (moved_by items k) o far j s → exceeds (sort_key r) (sort_key s) ≡ false
  moved_order o far i j r s less first second = by_moved r s (first.1.0 ∙ sym second.1.0) (first.1.1 ∙ sym second.1.1) (rise_at (moved_by items k) moved_rise i j r.moved s.moved less first.0 second.0)

  -- ---- The pairs of a rule

  pub pairs_order : (others : List PlacedPair) → Rise others → (far i j : ℕ) (r s : Reversal) → i < j → IsWithPair others far i r → IsWithPair others far j s → exceeds (sort_key r) (sort_key s) ≡ false
  pairs_order others rise far i j r s less first second = by_pair r s first.0 second.0 first.2.0 second.2.0 (first.2.1 ∙ sym second.2.1) (rise_at others rise i j first.0 second.0 less first.1 second.1)

  pub pairs_inside : (n : ℕ) (others : List PlacedPair) → AreAt items n others → (far i : ℕ) (r : Reversal) → IsWithPair others far i r → IsAt n far r
  pairs_inside n others are far i r of =
      let q_is = member (λ q. Contains (last_pairs items) q × (q.place.item ≡ n)) others of.0 are.there (member_at others i of.0 of.1) in
      (ap (λ (o : Other). (other_place o).item) of.2.0 ∙ q_is.1, of.2.1)

  module _ (weighing : WeighingIsDecided) (order : OrderIsDecided) where
    pub pairs_cover : (n : ℕ) (others : List PlacedPair) → AreAt items n others → (far : ℕ) (s : Reversal) → Contains (reversed_by items k) s → IsAt n far s → (i : ℕ) × (i < length others) × IsWithPair others far i s
    pairs_cover n others are far s there of = which s.moved s.other there of
      where
        which : (p : PlacedPair) (o : Other) → Contains (reversed_by items k) (record { moved = p; other = o }) → IsAt n far (record { moved = p; other = o }) → (i : ℕ) × (i < length others) × IsWithPair others far i (record { moved = p; other = o })
        which p (AnotherPair q) g is =
            let w = at_number others q (are.all q (pair_of_entry listed stands items k weighing order p q g).0 is.0) in
            (w.0, w.1, (q, w.2, (refl, is.1)))
        which p (KeptAt m) g is =
            let h = kept_of_entry listed stands items k weighing order p m g in
            absurd (false≢true (ap is_kept (some-same (sym are.rule.1 ∙ ap (slice_get items) (sym is.0) ∙ h.1)) ∙ h.2))

    -- an entry at a kept item is with it
    pub kept_at_is : (n : ℕ) (item : Item) → slice_get items n ≡ Some item → is_kept item ≡ true → (far : ℕ) (s : Reversal) → Contains (reversed_by items k) s → IsAt n far s → IsWith (KeptAt n) far s
    kept_at_is n item at kept far s there of = which s.moved s.other there of
      where
        which : (p : PlacedPair) (o : Other) → Contains (reversed_by items k) (record { moved = p; other = o }) → IsAt n far (record { moved = p; other = o }) → IsWith (KeptAt n) far (record { moved = p; other = o })
        which p (AnotherPair q) g is =
            let w = pair_rule listed stands items k p q g in
            absurd (false≢true (ap is_kept (some-same (sym w.1 ∙ ap (slice_get items) is.0 ∙ at)) ∙ kept))
        which p (KeptAt m) g is = (ap KeptAt is.0, is.1)

pub kept_with_is : (n far : ℕ) (s : Reversal) → IsWith (KeptAt n) far s → IsAt n far s
kept_with_is n far s is = (ap (λ (o : Other). (other_place o).item) is.0, is.1)

-- ---- The places

pub places_order : (far upper lower : ℕ) (places : List (Option ℕ)) → ArePlaces far upper lower places → (i j : ℕ) (r s : Reversal) → i < j → IsAtPlace places far i r → IsAtPlace places far j s → exceeds (sort_key r) (sort_key s) ≡ false
places_order far upper lower places are i j r s less first second = by_item r s (first.1 ∙ sym second.1) (are.ascend i j (other_place r.other).item (other_place s.other).item less first.0 second.0)

pub far_order : (i j : ℕ) (r s : Reversal) → i < j → IsFar i r → IsFar j s → exceeds (sort_key r) (sort_key s) ≡ false
far_order i j r s less first second = by_far r s (omega (arith, less, first, second))

-- ---- What is told of one of some pairs

pub pair_with_is : (answers : List Answered) (entries : List Reversal) (others : List PlacedPair) (far i : ℕ) (q : PlacedPair) → slice_get others i ≡ Some q → (a : Allowed) → IsToldOf answers entries (IsWith (AnotherPair q) far) a → IsToldOf answers entries (IsWithPair others far i) a
pair_with_is answers entries others far i q at a =
    told_as answers entries (IsWith (AnotherPair q) far) (IsWithPair others far i) (λ r there is. (q, at, is)) (λ r there of. (of.2.0 ∙ ap AnotherPair (some-same (sym of.1 ∙ at)), of.2.1)) a

-- ---- What is told of one of some places

pub some_place_is : {E : Type 0} (answers : List Answered) (entries : List Reversal) (place : Option ℕ) (n far : ℕ) → place ≡ Some n → (a : Result Allowed E) → IfOk a (λ x. IsToldOf answers entries (IsAt n far) x) → IfOk a (λ x. IsToldOf answers entries (IsAtSome place far) x)
some_place_is answers entries place n far is a =
    told_as_ok answers entries (IsAt n far) (IsAtSome place far) (λ r there of. (is ∙ ap Some (sym of.0), of.1)) (λ r there of. (sym (some-same (sym is ∙ of.0)), of.1)) a

pub place_is : (answers : List Answered) (entries : List Reversal) (places : List (Option ℕ)) (far i : ℕ) (place : Option ℕ) → slice_get places i ≡ Some place → (a : Allowed) → IsToldOf answers entries (IsAtSome place far) a → IsToldOf answers entries (IsAtPlace places far i) a
place_is answers entries places far i place at a =
    told_as answers entries (IsAtSome place far) (IsAtPlace places far i) (λ r there of. (at ∙ ap Some of.0, of.1)) (λ r there of. (some-same (sym at ∙ of.0), of.1)) a
