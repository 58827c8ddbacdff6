-- Entries of the list of what is reversed that have one key are one.
use Rattle.std.proofs.Common.{◌≡◌, ℕ, ◌+◌, Bool, true, List, Some, get_or, sym, ap, ap₂, ◌∙◌}
use Rattle.std.specs.Prelude.{slice_get}
use Rattle.std.specs.List.{Contains}
use Rattle.std.proofs.lemmas.Bool.{false≢true}
use Rattle.cascade_laws.proofs.ForCallers.{some-same, rule-same}
use Rattle.cascade_laws.specs.Families.{RelatingIsDecided}
use Rattle.css_model.specs.declared.sheet.Decl.{Decl}
use Rattle.css_model.specs.declared.sheet.DeclItem.{DeclItem}
use Rattle.css_model.specs.declared.sheet.Item.{Item}
use Rattle.css_model.specs.Cascade.Order.{Pair}
use Rattle.css_model.specs.Documents.SelectorParts.{SelectorParts}
use Rattle.css_model.specs.Sheets.KeptItems.{is_kept}
use Rattle.css_model.specs.Sheets.RuleParts.{RuleParts}
use Rattle.css_model.specs.Sheets.StyleRule.{selectors_of}
use Rattle.order_laws.proofs.ReversedList.{listed_is_reversed}
use Rattle.order_laws.specs.Edits.{Moved}
use Rattle.order_laws.specs.Members.{has_number}
use Rattle.order_laws.specs.Places.{PairPlace, PlacedPair, StandsLast}
use Rattle.order_laws.specs.Reversed.{Other, AnotherPair, KeptAt, Reversal, reversed, other_place, sort_key, IsReversedWith}

-- two pairs that stand last at one place are one
same_place : (counts counts' : ℕ → Bool) (items : List Item) (x y : PlacedPair) → StandsLast counts items x → StandsLast counts' items y → x.place ≡ y.place → x ≡ y
same_place counts counts' items x y l m e =
    let rules : l.rule ≡ m.rule = rule-same (some-same (sym l.rule_at ∙ ap (λ (w : PairPlace). slice_get items w.item) e ∙ m.rule_at)) in
    let selectors : x.pair.selector ≡ y.pair.selector = some-same (sym l.selector_at ∙ ap₂ (λ (r : RuleParts) (w : PairPlace). slice_get (selectors_of r) w.selector) rules e ∙ m.selector_at) in
    let found : l.item ≡ m.item = some-same (sym l.decl_at ∙ ap₂ (λ (r : RuleParts) (w : PairPlace). slice_get r.decls w.decl) rules e ∙ m.decl_at) in
    let declarations : x.pair.decl ≡ y.pair.decl = sym l.decl_is ∙ ap (λ (d : DeclItem). d.decl) found ∙ m.decl_is in
    let pairs : x.pair ≡ y.pair = ap₂ (λ (s : SelectorParts) (d : Decl). record { selector = s; decl = d }) selectors declarations in
    ap₂ (λ (p : Pair) (w : PairPlace). record { pair = p; place = w }) pairs e

-- a rule is no kept item
rule_not_kept : (items : List Item) (q : PlacedPair) (n : ℕ) (item : Item) → StandsLast (λ k. true) items q → slice_get items n ≡ Some item → is_kept item ≡ true → q.place.item ≡ n → ⊥
rule_not_kept items q n item l at kept e = false≢true (ap is_kept (some-same (sym l.rule_at ∙ ap (slice_get items) e ∙ at)) ∙ kept)

same_other : (items items' : List Item) (m : Moved) (p q : Pair) (o o' : Other) → IsReversedWith items items' m p o → IsReversedWith items items' m q o' → other_place o ≡ other_place o' → o ≡ o'
same_other items items' m p q (AnotherPair x) (AnotherPair y) is is' e = ap AnotherPair (same_place (λ k. true) (λ k. true) items x y is.0 is'.0 e)
same_other items items' m p q (AnotherPair x) (KeptAt n) is is' e = absurd (rule_not_kept items x n is'.0 is.0 is'.1 is'.2 (ap (λ (w : PairPlace). w.item) e))
same_other items items' m p q (KeptAt n) (AnotherPair y) is is' e = absurd (rule_not_kept items y n is.0 is'.0 is.1 is.2 (sym (ap (λ (w : PairPlace). w.item) e)))
same_other items items' m p q (KeptAt n) (KeptAt k) is is' e = ap (λ (w : PairPlace). KeptAt w.item) e

-- a key tells both places
abbrev three_from : ℕ → List ℕ → PairPlace
three_from n keys = record { item = get_or keys n 0; selector = get_or keys (n + 1) 0; decl = get_or keys (n + 2) 0 }

places_by_key : (r s : Reversal) → sort_key r ≡ sort_key s → (other_place r.other ≡ other_place s.other) × (r.moved.place ≡ s.moved.place)
places_by_key r s e = (ap (three_from 1) e, ap (three_from 4) e)

pub keys_tell_apart : RelatingIsDecided → (items items' : List Item) (m : Moved) (r s : Reversal) → Contains (reversed items items' m) r → Contains (reversed items items' m) s → sort_key r ≡ sort_key s → r ≡ s
keys_tell_apart relating items items' m r s h g e =
    let a : StandsLast (has_number m.out_of) items r.moved × IsReversedWith items items' m r.moved.pair r.other = (listed_is_reversed relating items items' m r).0 h in
    let b : StandsLast (has_number m.out_of) items s.moved × IsReversedWith items items' m s.moved.pair s.other = (listed_is_reversed relating items items' m s).0 g in
    let places : (other_place r.other ≡ other_place s.other) × (r.moved.place ≡ s.moved.place) = places_by_key r s e in
    ap₂ (λ (p : PlacedPair) (o : Other). record { moved = p; other = o })
    (same_place (has_number m.out_of) (has_number m.out_of) items r.moved s.moved a.0 b.0 places.1)
    (same_other items items' m r.moved.pair s.moved.pair r.other s.other a.1 b.1 places.0)
