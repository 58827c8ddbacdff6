-- Places of pairs: what stands there, that they are of the sheet, and that the parts of a sheet may be asked for and printed.
use Rattle.std.proofs.Common.{◌≡◌, ℕ, zero, suc, Bool, true, List, [], ◌∷◌, map, Some, None, refl, sym, ◌∙◌, subst, ap}
use Rattle.std.specs.Prelude.{slice_get}
use Rattle.std.specs.List.{AllByRecursion, Contains}
use Rattle.list_facts.proofs.Members.{Contains-here, Contains-there}
use Rattle.cascade_laws.proofs.ForCallers.{some-same}
use Rattle.css_model.specs.declared.example.Example.{Example}
use Rattle.css_model.specs.declared.sheet.DeclItem.{DeclItem}
use Rattle.css_model.specs.declared.sheet.Item.{Item}
use Rattle.css_model.specs.declared.sheet.Item.TheVariants.{Rule, KeptRule, KeptBlock}
use Rattle.css_model.specs.declared.sheet.SelItem.{SelItem}
use Rattle.css_model.specs.Selectors.Profile.{IsInProfile}
use Rattle.css_model.specs.Sheets.RuleParts.{RuleParts}
use Rattle.css_model.specs.Sheets.Sound.{IsSound, IsSoundItem, IsSoundSelector, IsSoundDeclaration}
use Rattle.order_laws.specs.Edits.{Moved}
use Rattle.order_laws.specs.Members.{has_number}
use Rattle.order_laws.specs.Places.{PlacedPair, StandsLast}
use Rattle.order_laws.specs.Reversed.{Other, AnotherPair, KeptAt, Reversal, reversed, IsReversedWith, ListedIsReversed}
use Rattle.overlap.specs.declared.answer.Answer.{Answer}
use Rattle.overlap.specs.declared.answer.Answer.TheVariants as given
use Rattle.overlap.specs.PairsParts.{Answered}
use Rattle.print_laws.specs.Profile.{HasSelectorsInProfile}
use Rattle.sheet_order.specs.declared.places.Other.TheVariants as others
use Rattle.sheet_order.specs.declared.places.Other as placed
use Rattle.sheet_order.specs.declared.places.PairPlace.{PairPlace}
use Rattle.sheet_order.specs.declared.places.Reversed.{Reversed}
use Rattle.sheet_order.specs.Places.{entry_of, place_of, other_of}
use Rattle.why_text.specs.declared.explaining.Explained.{Explained}
use Rattle.why_text.specs.declared.explaining.Explained.TheVariants.{Free, KeptItem, Blocked, Outside, Spent}
use Rattle.why_text.specs.Explaining.{told_by, TellsOther, IsExplained, HasPlaces, HasOtherPlace}
use Rattle.why_text.specs.PairTexts.{StandAt, IsPlace}
use Rattle.why_text.specs.WhyTexts.{HasPairs}

-- ---- What stands at a place

at_mapped : {X Y : Type 0} (f : X → Y) (xs : List X) (i : ℕ) (y : Y) → slice_get (map f xs) i ≡ Some y → (x : X) × (slice_get xs i ≡ Some x) × (f x ≡ y)
at_mapped f [] i y at = absurd (let e : None ≡ Some y = at in cc)
at_mapped f (x ∷ xs) zero y at = (x, refl, some-same at)
at_mapped f (x ∷ xs) (suc i) y at = at_mapped f xs i y at

-- a pair that stands last stands there, with its selector and its declaration
record IsThere (items : List Item) (x : PlacedPair) : Type 0 where
  selector : SelItem
  decl : DeclItem
  stand : StandAt items (place_of x.place) selector decl
  selector_is : selector.selector ≡ x.pair.selector
  decl_is : decl.decl ≡ x.pair.decl

last_is_there : (counts : ℕ → Bool) (items : List Item) (x : PlacedPair) → StandsLast counts items x → IsThere items x
last_is_there counts items x h =
    let w = at_mapped (λ (s : SelItem). s.selector) h.rule.selectors x.place.selector x.pair.selector h.selector_at in
    record {
      selector = w.0;
      decl = h.item;
      stand = record { rule = h.rule; rule_at = h.rule_at; selector_at = w.1; decl_at = h.decl_at };
      selector_is = w.2;
      decl_is = h.decl_is;
    }

pub last_is_place : (counts : ℕ → Bool) (items : List Item) (x : PlacedPair) → StandsLast counts items x → IsPlace items (place_of x.place)
last_is_place counts items x h = let w = last_is_there counts items x h in (w.selector, w.decl, w.stand)

-- two rules at one place are one
same_rule : (items : List Item) (n : ℕ) (r q : RuleParts) → slice_get items n ≡ Some (Rule r) → slice_get items n ≡ Some (Rule q) → r ≡ q
same_rule items n r q x y = let e : Some (Rule r) ≡ Some (Rule q) = sym x ∙ y in cc

pub same_selector : (items : List Item) (p : PairPlace) (s t : SelItem) (d f : DeclItem) → StandAt items p s d → StandAt items p t f → s ≡ t
same_selector items p s t d f x y =
    let r : x.rule ≡ y.rule = same_rule items p.item x.rule y.rule x.rule_at y.rule_at in
    some-same (sym x.selector_at ∙ subst (λ (q : RuleParts). slice_get q.selectors p.sel ≡ Some t) (sym r) y.selector_at)

pub same_decl : (items : List Item) (p : PairPlace) (s t : SelItem) (d f : DeclItem) → StandAt items p s d → StandAt items p t f → d ≡ f
same_decl items p s t d f x y =
    let r : x.rule ≡ y.rule = same_rule items p.item x.rule y.rule x.rule_at y.rule_at in
    some-same (sym x.decl_at ∙ subst (λ (q : RuleParts). slice_get q.decls p.decl ≡ Some f) (sym r) y.decl_at)

-- what stands at the place of a pair is its selector and its declaration
pub selector_is : (counts : ℕ → Bool) (items : List Item) (x : PlacedPair) (s : SelItem) (d : DeclItem) → StandsLast counts items x → StandAt items (place_of x.place) s d → s.selector ≡ x.pair.selector
selector_is counts items x s d h stand =
    let w = last_is_there counts items x h in
    ap (λ (z : SelItem). z.selector) (same_selector items (place_of x.place) s w.selector d w.decl stand w.stand) ∙ w.selector_is

pub decl_is : (counts : ℕ → Bool) (items : List Item) (x : PlacedPair) (s : SelItem) (d : DeclItem) → StandsLast counts items x → StandAt items (place_of x.place) s d → d.decl ≡ x.pair.decl
decl_is counts items x s d h stand =
    let w = last_is_there counts items x h in
    ap (λ (z : DeclItem). z.decl) (same_decl items (place_of x.place) s w.selector d w.decl stand w.stand) ∙ w.decl_is

-- ---- The places of entries, and of what is told

all_mapped : {X Y : Type 0} (P : Y → Type 0) (f : X → Y) (xs : List X) → ((x : X) → Contains xs x → P (f x)) → AllByRecursion P (map f xs)
all_mapped P f [] h = tt
all_mapped P f (x ∷ xs) h = (h x (Contains-here x xs), all_mapped P f xs (λ y g. h y (Contains-there x xs y g)))

other_place : (items items' : List Item) (m : Moved) (r : Reversal) (o : Other) → IsReversedWith items items' m r.moved.pair o → HasOtherPlace items (other_of o)
other_place items items' m r (AnotherPair q) is = last_is_place (λ n. true) items q is.0
other_place items items' m r (KeptAt n) is = tt

entries_have_places : ListedIsReversed → (items items' : List Item) (m : Moved) → AllByRecursion (HasPlaces items) (map entry_of (reversed items items' m))
entries_have_places listed items items' m = all_mapped (HasPlaces items) entry_of (reversed items items' m) (λ r g.
    let is = (listed items items' m r).0 g in (last_is_place (has_number m.out_of) items r.moved is.0, other_place items items' m r r.other is.1))

pub entries_placed : ListedIsReversed → (items items' : List Item) (m : Moved) (list : List Reversed) → list ≡ map entry_of (reversed items items' m) → AllByRecursion (HasPlaces items) list
entries_placed listed items items' m list is = subst (λ (rs : List Reversed). AllByRecursion (HasPlaces items) rs) (sym is) (entries_have_places listed items items' m)

first_has_pairs : (answers : List Answered) (items : List Item) (r : Reversed) (o : placed.Other) (p q : PairPlace) (e : Example) → TellsOther answers items r.moved o (Some (Blocked p q e)) → HasPairs items (Blocked p q e)
first_has_pairs answers items r (others.Pair o) p q e h = of_answer h.answer h.tells
  where
    of_answer : (a : Answer) → told_by r.moved o a ≡ Some (Blocked p q e) → HasPairs items (Blocked p q e)
    of_answer given.Apart is = absurd (let bad = is in cc)
    of_answer (given.Meet f) is =
        let first : r.moved ≡ p = let same = is in cc in
        let second : o ≡ q = let same = is in cc in
        (subst (λ (z : PairPlace). IsPlace items z) first (h.moved, h.there.first_decl, h.there.first), subst (λ (z : PairPlace). IsPlace items z) second (h.other, h.there.second_decl, h.there.second))
    of_answer (given.Outside reason number) is = absurd (let bad = is in cc)
    of_answer (given.Spent ledger) is = absurd (let bad = is in cc)
first_has_pairs answers items r (others.Kept n) p q e h = absurd (let bad = h in cc)

pub told_has_pairs : (answers : List Answered) (items : List Item) (from to : ℕ) (item : Item) (x : Explained) → IsExplained answers items from to item x → HasPairs items x
told_has_pairs answers items from to item Free is = tt
told_has_pairs answers items from to item (KeptItem n) is = tt
told_has_pairs answers items from to (Rule r) (Blocked p q e) is = first_has_pairs answers items is.entry is.entry.other p q e is.tells
told_has_pairs answers items from to (KeptRule kept) (Blocked p q e) is = absurd (let bad = is in cc)
told_has_pairs answers items from to (KeptBlock piece) (Blocked p q e) is = absurd (let bad = is in cc)
told_has_pairs answers items from to item (Outside reason) is = tt
told_has_pairs answers items from to item Spent is = tt

-- ---- The parts of a sheet

at_of : {X : Type 0} (P : X → Type 0) (xs : List X) (i : ℕ) (x : X) → AllByRecursion P xs → slice_get xs i ≡ Some x → P x
at_of P [] i x all at = absurd (let e : None ≡ Some x = at in cc)
at_of P (y ∷ xs) zero x all at = subst P (some-same at) all.0
at_of P (y ∷ xs) (suc i) x all at = at_of P xs i x all.1 at

pub selector_in_profile : (items : List Item) (p : PairPlace) (s : SelItem) (d : DeclItem) → AllByRecursion HasSelectorsInProfile items → StandAt items p s d → IsInProfile s.selector
selector_in_profile items p s d all stand = at_of (λ (x : SelItem). IsInProfile x.selector) stand.rule.selectors p.sel s (at_of HasSelectorsInProfile items p.item (Rule stand.rule) all stand.rule_at) stand.selector_at

pub selector_sound : (source : List ℕ) (items : List Item) (p : PairPlace) (s : SelItem) (d : DeclItem) → IsSound source items → StandAt items p s d → IsSoundSelector source s
selector_sound source items p s d sound stand =
    at_of (IsSoundSelector source) stand.rule.selectors p.sel s (at_of (IsSoundItem source) items p.item (Rule stand.rule) sound stand.rule_at).selectors stand.selector_at

pub decl_sound : (source : List ℕ) (items : List Item) (p : PairPlace) (s : SelItem) (d : DeclItem) → IsSound source items → StandAt items p s d → IsSoundDeclaration source d
decl_sound source items p s d sound stand =
    at_of (IsSoundDeclaration source) stand.rule.decls p.decl d (at_of (IsSoundItem source) items p.item (Rule stand.rule) sound stand.rule_at).decls stand.decl_at
