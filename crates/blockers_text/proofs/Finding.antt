-- The entries that stop a step, found one after the other.
use Rattle.std.proofs.Common.{◌≡◌, inl, inr, ℕ, zero, suc, ◌<◌, ◌≤◌, Bool, true, false, ◌||◌, cond, List, [], ◌∷◌, ◌++◌, length, get_or, set, replicate, Option, Some, None, refl, sym, ap, subst, ◌∙◌, arith, get_or-set_other, get_or-set_same, eq-eqb}
use Rattle.std.specs.Prelude.{◌==◌, slice_get}
use Rattle.std.specs.List.{AllByRecursion}
use Rattle.std.proofs.lemmas.Bool.{cases_lt, eqb-true, false≢true, or_right}
use Rattle.std.proofs.lemmas.List.{length-replicate, length-set}
use Rattle.std.proofs.lemmas.List.Folds.{list_any-append}
use Rattle.blockers_text.specs.Later.{AddsEntry, AreInProfile, AreMarks, TellsEntries, TellsEntry}
use Rattle.blockers_text.specs.Stopping.{AreSettled, AreSettledAfter, are_other, has_item, is_kept_in, item_of, other_stops, selector_at, selectors_in, stopping, stopping_after, stops}
use Rattle.css_model.specs.declared.sheet.Item.{Item}
use Rattle.css_model.specs.declared.sheet.Item.TheVariants.{Rule, KeptRule, KeptBlock}
use Rattle.css_model.specs.declared.sheet.SelItem.{SelItem}
use Rattle.css_model.specs.Selectors.Profile.{IsInProfile}
use Rattle.print_laws.specs.Profile.{HasSelectorsInProfile}
use Rattle.sheet_order.specs.declared.places.Other.{Other}
use Rattle.sheet_order.specs.declared.places.Other.TheVariants.{Pair, Kept}
use Rattle.sheet_order.specs.declared.places.PairPlace.{PairPlace}
use Rattle.sheet_order.specs.declared.places.Reversed.{Reversed}
use Rattle.sheet_order.specs.Taking.{rule_in}
use Rattle.step_laws.specs.Free.{Answered}

-- ---- Selectors of the profile

at_of : {X : Type 0} (P : X → Type 0) (xs : List X) (i : ℕ) (x : X) → AllByRecursion P xs → slice_get xs i ≡ Some x → P x
at_of P [] i x all at = absurd (let e : None ≡ Some x = at in cc)
at_of P (y ∷ xs) zero x all at = let e : Some y ≡ Some x = at in let same : y ≡ x = cc in subst P same all.0
at_of P (y ∷ xs) (suc i) x all at = at_of P xs i x all.1 at

in_rule : (items : List Item) (n : ℕ) (s : SelItem) (i : ℕ) (o : Option Item) → slice_get items n ≡ o → AllByRecursion HasSelectorsInProfile items → slice_get (selectors_in (rule_in o)) i ≡ Some s → IsInProfile s.selector
in_rule items n s i None is all at = absurd (let e : None ≡ Some s = at in cc)
in_rule items n s i (Some (Rule r)) is all at = at_of (λ (x : SelItem). IsInProfile x.selector) r.selectors i s (at_of HasSelectorsInProfile items n (Rule r) all is) at
in_rule items n s i (Some (KeptRule k)) is all at = absurd (let e : None ≡ Some s = at in cc)
in_rule items n s i (Some (KeptBlock b)) is all at = absurd (let e : None ≡ Some s = at in cc)

pub in_profile : (items : List Item) (p q : PairPlace) → AllByRecursion HasSelectorsInProfile items → AreInProfile (selector_at items p) (selector_at items q)
in_profile items p q all = both (selector_at items p) (selector_at items q) refl refl
  where
    both : (a b : Option SelItem) → selector_at items p ≡ a → selector_at items q ≡ b → AreInProfile a b
    both None b first second = tt
    both (Some s) None first second = tt
    both (Some s) (Some t) first second = (in_rule items p.item s p.sel (slice_get items p.item) refl all first, in_rule items q.item t q.sel (slice_get items q.item) refl all second)

-- ---- An entry that stops names an item of the sheet

behind_end : {X : Type 0} (xs : List X) (n : ℕ) → length xs ≤ n → slice_get xs n ≡ None
behind_end [] n h = refl
behind_end (x ∷ xs) zero h = absurd (omega (arith, h))
behind_end (x ∷ xs) (suc n) h = behind_end xs n (omega (arith, h))

none_there : (answers : List Answered) (x : Option SelItem) (y : Option SelItem) → y ≡ None → are_other answers x y ≡ false
none_there answers None y none = refl
none_there answers (Some s) y none = ap (are_other answers (Some s)) none

other_inside : (answers : List Answered) (items : List Item) (moved : PairPlace) (o : Other) (n : ℕ) → n ≡ item_of (record { moved = moved; other = o }) → length items ≤ n → other_stops answers items moved o ≡ false
other_inside answers items moved (Pair q) n is h =
    let none : slice_get items q.item ≡ None = behind_end items q.item (subst (λ (m : ℕ). length items ≤ m) is h) in
    none_there answers (selector_at items moved) (selector_at items q) (ap (λ (o : Option Item). slice_get (selectors_in (rule_in o)) q.sel) none)
other_inside answers items moved (Kept m) n is h = ap is_kept_in (behind_end items m (subst (λ (k : ℕ). length items ≤ k) is h))

pub stops_inside : (answers : List Answered) (items : List Item) (r : Reversed) → stops answers items r ≡ true → item_of r < length items
stops_inside answers items r stop = elim (cases_lt (item_of r) (length items)) [
  | inl less ↦ less
  | inr more ↦ absurd (false≢true (sym (other_inside answers items r.moved r.other (item_of r) refl more) ∙ stop))
]

-- ---- Marks

pub no_marks : (items : List Item) → AreMarks items [] (replicate (length items) false)
no_marks items = record { many = length-replicate (length items) false; are = λ n. all_false (length items) n }
  where
    all_false : (m n : ℕ) → get_or (replicate m false) n false ≡ false
    all_false zero n = refl
    all_false (suc m) zero = refl
    all_false (suc m) (suc n) = all_false m n

pub named_push : (found : List Reversed) (r : Reversed) (n : ℕ) → has_item (found ++ r ∷ []) n ≡ (has_item found n || (item_of r == n || false))
named_push found r n = list_any-append (λ (s : Reversed). item_of s == n) found (r ∷ [])

pub marks_more : (items : List Item) (found : List Reversed) (marks : List Bool) (r : Reversed) → AreMarks items found marks → item_of r < length items → AreMarks items (found ++ r ∷ []) (set marks (item_of r) true)
marks_more items found marks r are inside = record {
  many = length-set marks (item_of r) true ∙ are.many;
  are = λ n. which n (item_of r == n) refl;
}
  where
    or_none : (b : Bool) → (b || (false || false)) ≡ b
    or_none true = refl
    or_none false = refl

    which : (n : ℕ) (b : Bool) → (item_of r == n) ≡ b → get_or (set marks (item_of r) true) n false ≡ has_item (found ++ r ∷ []) n
    which n true e =
        let same : n ≡ item_of r = sym (eqb-true (item_of r) n e) in
        ap (λ (m : ℕ). get_or (set marks (item_of r) true) m false) same ∙ get_or-set_same marks (item_of r) true false (subst (λ (m : ℕ). item_of r < m) (sym are.many) inside)
        ∙ sym (named_push found r n ∙ or_right (has_item found n) (item_of r == n || false) (ap (λ (b : Bool). b || false) e))
    which n false e =
        get_or-set_other marks (item_of r) n true false (λ same. false≢true (sym e ∙ eq-eqb (item_of r) n (sym same)))
        ∙ are.are n ∙ sym (named_push found r n ∙ ap (λ (b : Bool). has_item found n || (b || false)) e ∙ or_none (has_item found n))

-- ---- One entry more

abbrev Cases : Bool → List Reversed → Reversed → Bool → List Reversed
Cases named found r stop = cond named found (cond stop (found ++ r ∷ []) found)

pub adds_known : (answers : List Answered) (items : List Item) (found : List Reversed) (r : Reversed) → has_item found (item_of r) ≡ true → AddsEntry answers items found r found
adds_known answers items found r named = record {
  is = ap (λ (b : Bool). Cases b found r (stops answers items r)) named;
  settled = inl named;
}

pub adds_stop : (answers : List Answered) (items : List Item) (found : List Reversed) (r : Reversed) → has_item found (item_of r) ≡ false → TellsEntry answers items r true → AddsEntry answers items found r (found ++ r ∷ [])
adds_stop answers items found r new tells = record {
  is = ap (λ (b : Bool). Cases b found r (stops answers items r)) new ∙ ap (λ (b : Bool). Cases false found r b) tells.is;
  settled = inr tells.settled;
}

pub adds_none : (answers : List Answered) (items : List Item) (found : List Reversed) (r : Reversed) → has_item found (item_of r) ≡ false → TellsEntry answers items r false → AddsEntry answers items found r found
adds_none answers items found r new tells = record {
  is = ap (λ (b : Bool). Cases b found r (stops answers items r)) new ∙ ap (λ (b : Bool). Cases false found r b) tells.is;
  settled = inr tells.settled;
}

-- ---- Of all entries, those so far

-- what is found in the entries that are left, after those found so far, is what is found in all
pub record AreFound (answers : List Answered) (items : List Item) (entries found rest : List Reversed) : Type 0 where
  pub is : stopping_after answers items found rest ≡ stopping answers items entries
  pub settled : AreSettledAfter answers items found rest → AreSettled answers items entries

pub none_found : (answers : List Answered) (items : List Item) (entries : List Reversed) → AreFound answers items entries [] entries
none_found answers items entries = record { is = refl; settled = λ h. h }

pub found_next : (answers : List Answered) (items : List Item) (entries found more rest others : List Reversed) (r : Reversed) → AreFound answers items entries found rest → rest ≡ r ∷ others → AddsEntry answers items found r more →
    AreFound answers items entries more others
found_next answers items entries found more rest others r so_far cut adds =
    let here : AreFound answers items entries found (r ∷ others) = subst (λ (rs : List Reversed). AreFound answers items entries found rs) cut so_far in
    record {
      is = ap (λ (fs : List Reversed). stopping_after answers items fs others) (sym adds.is) ∙ here.is;
      settled = λ h. here.settled (adds.settled, subst (λ (fs : List Reversed). AreSettledAfter answers items fs others) (sym adds.is) h);
    }

pub all_found : (answers : List Answered) (items : List Item) (entries found rest : List Reversed) → AreFound answers items entries found rest → length rest ≤ 0 → TellsEntries answers items entries found
all_found answers items entries found [] so_far none = record { is = sym so_far.is; settled = so_far.settled tt }
all_found answers items entries found (r ∷ rest) so_far none = absurd (omega (arith, none))
