-- The last pairs of a sheet that are in one of its items.
use Rattle.std.proofs.Common.{◌≡◌, ◌⊎◌, ℕ, zero, suc, ◌<◌, ◌≤◌, Bool, true, false, List, [], ◌∷◌, take, drop, Some, refl, sym, ap, ◌∙◌, subst, inl, inr, arith}
use Rattle.std.specs.Prelude.{nat_eq, nat_le, nat_lt, slice_get}
use Rattle.std.specs.List.{AllByRecursion, Contains, filter, prefix_len}
use Rattle.std.specs.List.Sorted.{IsNonDecreasingBy}
use Rattle.std.proofs.lemmas.Bool.Decides.{nat_tests}
use Rattle.std.proofs.lemmas.List.Sorted.{IsNonDecreasingBy-drop}
use Rattle.css_model.specs.declared.sheet.Item.{Item}
use Rattle.css_model.specs.declared.sheet.Item.TheVariants.{Rule}
use Rattle.css_model.specs.Sheets.RuleParts.{RuleParts}
use Rattle.list_facts.proofs.Elements.{all_drop, all_in, all_take, all_with}
use Rattle.list_facts.proofs.Members.{Contains-filter, Contains-filtered}
use Rattle.order_index.proofs.KeyOrder.{which_first}
use Rattle.order_index.proofs.Parts.{drop_one, filter_before, filter_behind, take_one}
use Rattle.order_index.proofs.PlaceOrder.{last_rise}
use Rattle.order_index.proofs.Rising.{pairs_rise}
use Rattle.order_index.specs.Others.{AreAt, Later, Rise}
use Rattle.order_laws.specs.Places.{PlacedPair, last_pairs}

later_item : (p q : PlacedPair) → Later p q → p.place.item ≤ q.place.item
later_item p q h = which (which_first q.place.item p.place.item (q.place.selector ∷ q.place.decl ∷ []) (p.place.selector ∷ p.place.decl ∷ []) h)
  where
    which : {X : Type 0} → (p.place.item < q.place.item) ⊎ ((q.place.item ≡ p.place.item) × X) → p.place.item ≤ q.place.item
    which (inl less) = omega (arith, less)
    which (inr same) = let e = same.0 in omega (arith, e)

abbrev below : ℕ → PlacedPair → Bool
below n q = nat_lt q.place.item n

abbrev up_to : ℕ → PlacedPair → Bool
up_to n q = nat_le q.place.item n

-- ---- Parts of a list that rises

all_later : (n : ℕ) (p : PlacedPair) (ps : List PlacedPair) → n ≤ p.place.item → AllByRecursion (Later p) ps → AllByRecursion (λ q. n ≤ q.place.item) (p ∷ ps)
all_later n p ps low later = (low, all_with (Later p) (λ q. n ≤ q.place.item) (λ q h. let more : p.place.item ≤ q.place.item = later_item p q h in omega (arith, low, more)) ps later)

from_low : (n : ℕ) (ps : List PlacedPair) → Rise ps → AllByRecursion (λ q. n ≤ q.place.item) (drop (prefix_len (below n) ps) ps)
from_low n [] rise = tt
from_low n (p ∷ ps) rise = which (below n p) refl (from_low n ps rise.1)
  where
    which : (b : Bool) → below n p ≡ b → AllByRecursion (λ q. n ≤ q.place.item) (drop (prefix_len (below n) ps) ps) → AllByRecursion (λ q. n ≤ q.place.item) (drop (prefix_len (below n) (p ∷ ps)) (p ∷ ps))
    which true e ih = rw e (subst (AllByRecursion (λ q. n ≤ q.place.item)) (sym (drop_one (prefix_len (below n) ps) p ps)) ih)
    which false e ih = let low : n ≤ p.place.item = grind (arith, nat_tests, e) in rw e (all_later n p ps low rise.0)

up_high : (n : ℕ) (ps : List PlacedPair) → AllByRecursion (λ q. q.place.item ≤ n) (take (prefix_len (up_to n) ps) ps)
up_high n [] = tt
up_high n (p ∷ ps) = which (up_to n p) refl (up_high n ps)
  where
    which : (b : Bool) → up_to n p ≡ b → AllByRecursion (λ q. q.place.item ≤ n) (take (prefix_len (up_to n) ps) ps) → AllByRecursion (λ q. q.place.item ≤ n) (take (prefix_len (up_to n) (p ∷ ps)) (p ∷ ps))
    which true e ih = let high : p.place.item ≤ n = grind (arith, nat_tests, e) in rw e (subst (AllByRecursion (λ q. q.place.item ≤ n)) (sym (take_one (prefix_len (up_to n) ps) p ps)) (high, ih))
    which false e ih = rw e tt

rise_drop : (m : ℕ) (ps : List PlacedPair) → Rise ps → Rise (drop m ps)
rise_drop zero ps rise = rise
rise_drop (suc m) [] rise = tt
rise_drop (suc m) (p ∷ ps) rise = rise_drop m ps rise.1

rise_take : (m : ℕ) (ps : List PlacedPair) → Rise ps → Rise (take m ps)
rise_take zero ps rise = tt
rise_take (suc m) [] rise = tt
rise_take (suc m) (p ∷ ps) rise = (all_take (Later p) m ps rise.0, rise_take m ps rise.1)

all_three : {X : Type 0} (P Q R S : X → Type 0) → ((x : X) → P x → Q x → R x → S x) → (xs : List X) → AllByRecursion P xs → AllByRecursion Q xs → AllByRecursion R xs → AllByRecursion S xs
all_three P Q R S f [] ps qs rs = tt
all_three P Q R S f (x ∷ xs) ps qs rs = (f x ps.0 qs.0 rs.0, all_three P Q R S f xs ps.1 qs.1 rs.1)

-- ---- The pairs

pub pairs_at : (items : List Item) (n : ℕ) → (r : RuleParts) × (slice_get items n ≡ Some (Rule r)) → (rest part : List PlacedPair) → rest ≡ drop (prefix_len (λ q. nat_lt q.place.item n) (last_pairs items)) (last_pairs items) →
    part ≡ take (prefix_len (λ q. nat_le q.place.item n) rest) rest → AreAt items n part
pairs_at items n rule rest part rest_is part_is = record {
  rule = rule;
  there = subst (AllByRecursion (λ q. Contains whole q × (q.place.item ≡ n))) (sym part_is)
      (all_three (Contains whole) (λ q. n ≤ q.place.item) (λ q. q.place.item ≤ n) (λ q. Contains whole q × (q.place.item ≡ n)) (λ q inside low high. (inside, omega (arith, low, high))) (take size rest)
      (all_take (Contains whole) size rest (subst (AllByRecursion (Contains whole)) (sym rest_is) (all_drop (Contains whole) start whole (all_in whole))))
      (all_take (λ q. n ≤ q.place.item) size rest (subst (AllByRecursion (λ q. n ≤ q.place.item)) (sym rest_is) (from_low n whole whole_rise))) (up_high n rest));
  all = λ q inside is. (Contains-filter here part q (subst (λ (xs : List PlacedPair). Contains xs q) same (Contains-filtered here whole q inside (is_here q is)))).0;
  rise = subst Rise (sym part_is) (rise_take size rest (subst Rise (sym rest_is) (rise_drop start whole whole_rise)));
}
  where
    whole : List PlacedPair
    whole = last_pairs items

    start : ℕ
    start = prefix_len (below n) whole

    size : ℕ
    size = prefix_len (up_to n) rest

    whole_rise : Rise whole
    whole_rise = last_rise (λ m. true) 0 items

    here : PlacedPair → Bool
    here q = nat_eq q.place.item n

    is_here : (q : PlacedPair) → q.place.item ≡ n → here q ≡ true
    is_here q is = grind (arith, nat_tests, is)

    not_low : (q : PlacedPair) → below n q ≡ true → here q ≡ false
    not_low q low = grind (arith, nat_tests, low)

    not_high : (q : PlacedPair) → n < q.place.item → here q ≡ false
    not_high q high = grind (arith, nat_tests, high)

    same : filter here whole ≡ filter here part
    same =
        filter_behind here (below n) whole (λ q inside low. not_low q low)
        ∙ ap (filter here) (sym rest_is)
        ∙ filter_before here (λ q. q.place.item) n rest (subst (IsNonDecreasingBy (λ q. q.place.item)) (sym rest_is) (IsNonDecreasingBy-drop (λ q. q.place.item) start whole (pairs_rise items))) (λ q inside high. not_high q high)
        ∙ ap (filter here) (sym part_is)
