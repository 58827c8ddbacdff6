-- The last pairs of a sheet stand in the order of its items.
use Rattle.std.proofs.Common.{◌≡◌, ℕ, zero, suc, ◌<◌, ◌≤◌, Bool, true, false, not, List, [], ◌∷◌, ◌++◌, length, get_or, map, None, refl, arith}
use Rattle.std.specs.List.{AllByRecursion, filter, flat_map}
use Rattle.std.specs.List.Sorted.{IsNonDecreasingBy}
use Rattle.css_model.specs.declared.sheet.Decl.{Decl}
use Rattle.css_model.specs.declared.sheet.Item.{Item}
use Rattle.css_model.specs.declared.sheet.Item.TheVariants.{Rule, KeptRule, KeptBlock}
use Rattle.css_model.specs.Documents.SelectorParts.{SelectorParts}
use Rattle.list_facts.proofs.Elements.{all_filter, all_with}
use Rattle.order_laws.specs.Places.{PlacedPair, first_selectors, has_pair, last_decls, last_pairs, last_pairs_from, pairs_of, placed}

-- ---- The pairs of an item

abbrev IsOf : ℕ → PlacedPair → Type 0
IsOf n q = q.place.item ≡ n

all_placed : (n : ℕ) (s : ℕ × SelectorParts) (ds : List (ℕ × Decl)) (rest : List PlacedPair) → AllByRecursion (IsOf n) rest → AllByRecursion (IsOf n) (map (placed n s) ds ++ rest)
all_placed n s [] rest all = all
all_placed n s (d ∷ ds) rest all = (refl, all_placed n s ds rest all)

all_products : (n : ℕ) (ds : List (ℕ × Decl)) (ss : List (ℕ × SelectorParts)) → AllByRecursion (IsOf n) (flat_map (λ s. map (placed n s) ds) ss)
all_products n ds [] = tt
all_products n ds (s ∷ ss) = all_placed n s ds (flat_map (λ s. map (placed n s) ds) ss) (all_products n ds ss)

all_of : (n : ℕ) (item : Item) → AllByRecursion (IsOf n) (pairs_of n item)
all_of n (Rule r) = all_products n (last_decls 0 r.decls) (first_selectors 0 r.selectors)
all_of n (KeptRule k) = tt
all_of n (KeptBlock k) = tt

-- ---- All of them

-- none stands in an item above this one, nor above the one before it
abbrev Rises : ℕ → List PlacedPair → Type 0
Rises n [] = Unit {0}
Rises n (q ∷ qs) = (n ≤ q.place.item) × Rises q.place.item qs

lower : (m n : ℕ) (qs : List PlacedPair) → m ≤ n → Rises n qs → Rises m qs
lower m n [] less rises = tt
lower m n (q ∷ qs) less rises = (omega (arith, less, rises.0), rises.1)

in_front : (n : ℕ) (ps qs : List PlacedPair) → AllByRecursion (IsOf n) ps → Rises n qs → Rises n (ps ++ qs)
in_front n [] qs all rises = rises
in_front n (p ∷ ps) qs all rises =
    let is = all.0 in
    (omega (arith, is), lower p.place.item n (ps ++ qs) (omega (arith, is)) (in_front n ps qs all.1 rises))

rise_from : (n : ℕ) (items : List Item) → Rises n (last_pairs_from (λ m. true) n items)
rise_from n [] = tt
rise_from n (item ∷ items) =
    let later : List PlacedPair = last_pairs_from (λ m. true) (suc n) items in
    let test : PlacedPair → Bool = λ p. not (has_pair later p.pair) in
    in_front n (filter test (pairs_of n item)) later (all_with (λ p. IsOf n p × (test p ≡ true)) (IsOf n) (λ p h. h.0) (filter test (pairs_of n item)) (all_filter (IsOf n) test (pairs_of n item) (all_of n item)))
    (lower n (suc n) later (omega arith) (rise_from (suc n) items))

least : (n : ℕ) (qs : List PlacedPair) (j : ℕ) (d : PlacedPair) → Rises n qs → j < length qs → n ≤ (get_or qs j d).place.item
least n [] j d rises within = absurd (omega (arith, within))
least n (q ∷ qs) zero d rises within = rises.0
least n (q ∷ qs) (suc j) d rises within =
    let h : q.place.item ≤ (get_or qs j d).place.item = least q.place.item qs j d rises.1 (omega (arith, within)) in
    omega (arith, h, rises.0)

non_decreasing : (n : ℕ) (qs : List PlacedPair) → Rises n qs → IsNonDecreasingBy (λ q. q.place.item) qs
non_decreasing n [] rises i j d low within = absurd (omega (arith, within))
non_decreasing n (q ∷ qs) rises zero zero d low within = omega arith
non_decreasing n (q ∷ qs) rises zero (suc j) d low within = least q.place.item qs j d rises.1 (omega (arith, within))
non_decreasing n (q ∷ qs) rises (suc i) zero d low within = absurd (omega (arith, low))
non_decreasing n (q ∷ qs) rises (suc i) (suc j) d low within = non_decreasing q.place.item qs rises.1 i j d (omega (arith, low)) (omega (arith, within))

pub pairs_rise : (items : List Item) → IsNonDecreasingBy (λ q. q.place.item) (last_pairs items)
pairs_rise items = non_decreasing 0 (last_pairs items) (rise_from 0 items)

pub some_pair : PlacedPair
some_pair = record {
  pair = record { selector = record { chain = []; links = []; pseudo = None }; decl = record { name = []; value = []; important = false } };
  place = record { item = 0; selector = 0; decl = 0 };
}
