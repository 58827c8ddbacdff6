-- The pairs of a rule put into a table from the last one on.
use Rattle.std.proofs.Common.{◌≡◌, ℕ, Bool, true, false, not, List, [], ◌∷◌, ◌++◌, map, reverse, refl, sym, ap, ap₂, subst, ◌∙◌}
use Rattle.std.specs.Prelude.{◌&&◌, ◌||◌, if◌then◌else◌}
use Rattle.std.specs.List.{AllByRecursion, IsDistinct, filter, flat_map, list_any}
use Rattle.std.proofs.lemmas.Bool.{and_parts, or_parts, or_from}
use Rattle.std.proofs.lemmas.List.{append-nil, append_assoc, reverse-append, reverse-reverse}
use Rattle.std.proofs.lemmas.List.Concat.{flat_map-cons}
use Rattle.css_model.specs.declared.sheet.Decl.{Decl}
use Rattle.css_model.specs.declared.sheet.Item.TheVariants as kinds
use Rattle.css_model.specs.Cascade.Order.{Pair}
use Rattle.css_model.specs.Documents.SelectorParts.{SelectorParts}
use Rattle.css_model.specs.Sheets.RuleParts.{RuleParts}
use Rattle.indexmap.specs.IndexSet.{insert_key}
use Rattle.order_laws.specs.Members.{same_selector, same_decl, same_pair}
use Rattle.order_laws.specs.Places.{PlacedPair, placed, first_selectors, last_decls, pairs_of, has_pair}
use Rattle.sheet_order.proofs.Inserting.{inserted_append}
use Rattle.sheet_order.proofs.LastDecls.{DistinctDecls, lasts_distinct}
use Rattle.sheet_order.proofs.Lists.{any_append, any_reverse, any_map, any_weaker, any_filter, any_never, flat_map_append, reverse_cons, map_reverse}
use Rattle.sheet_order.specs.Counting.{not_among}
use Rattle.sheet_order.specs.Keys.{PutsPairs, inserted, products_back}

-- ---- Distinct pairs

abbrev Distinct : List PlacedPair → Type 0
Distinct [] = Unit {0}
Distinct (p ∷ pairs) = (has_pair pairs p.pair ≡ false) × Distinct pairs

-- none of the first pairs is among the others
abbrev Apart : List PlacedPair → List PlacedPair → Type 0
Apart xs ys = AllByRecursion (λ p. has_pair ys p.pair ≡ false) xs

distinct_append : (xs ys : List PlacedPair) → Distinct xs → Distinct ys → Apart xs ys → Distinct (xs ++ ys)
distinct_append [] ys first second apart = second
distinct_append (p ∷ xs) ys (new, first) second (away, apart) =
    (any_append (λ q. same_pair q.pair p.pair) xs ys ∙ or_from (has_pair xs p.pair) (has_pair ys p.pair) new away, distinct_append xs ys first second apart)

abbrev products : ℕ → List (ℕ × SelectorParts) → List (ℕ × Decl) → List PlacedPair
products item selectors decls = flat_map (λ s. map (placed item s) decls) selectors

one_distinct : (item : ℕ) (s : ℕ × SelectorParts) (decls : List (ℕ × Decl)) → DistinctDecls decls → Distinct (map (placed item s) decls)
one_distinct item s [] distinct = tt
one_distinct item s (d ∷ decls) (new, distinct) = (
  any_map (λ q. same_pair q.pair (placed item s d).pair) (placed item s) decls
      ∙ any_weaker (λ x. same_selector s.1 s.1 && same_decl x.1 d.1) (λ x. same_decl x.1 d.1) (λ x h. (and_parts (same_selector s.1 s.1) (same_decl x.1 d.1) h).1) decls new,
  one_distinct item s decls distinct,
)

other_selector : (item : ℕ) (selectors : List (ℕ × SelectorParts)) (decls : List (ℕ × Decl)) (p : Pair) →
    list_any (λ t. same_selector t.1 p.selector) selectors ≡ false → has_pair (products item selectors decls) p ≡ false
other_selector item [] decls p none = refl
other_selector item (t ∷ selectors) decls p none =
    let w = or_parts (same_selector t.1 p.selector) (list_any (λ x. same_selector x.1 p.selector) selectors) none in
    ap (λ xs. has_pair xs p) (flat_map-cons (λ s. map (placed item s) decls) t selectors)
    ∙ any_append (λ q. same_pair q.pair p) (map (placed item t) decls) (products item selectors decls)
    ∙ or_from (has_pair (map (placed item t) decls) p) (has_pair (products item selectors decls) p)
    (any_map (λ q. same_pair q.pair p) (placed item t) decls ∙ any_never (λ x. same_selector t.1 p.selector && same_decl x.1 p.decl) (λ x. ap (λ (b : Bool). b && same_decl x.1 p.decl) w.0) decls)
    (other_selector item selectors decls p w.1)

one_apart : (item : ℕ) (s : ℕ × SelectorParts) (decls all : List (ℕ × Decl)) (selectors : List (ℕ × SelectorParts)) →
    list_any (λ t. same_selector t.1 s.1) selectors ≡ false → Apart (map (placed item s) decls) (products item selectors all)
one_apart item s [] all selectors none = tt
one_apart item s (d ∷ decls) all selectors none = (other_selector item selectors all (placed item s d).pair none, one_apart item s decls all selectors none)

none_of : {X : Type 0} (f : X → Bool) (xs : List X) → AllByRecursion (λ x. f x ≡ false) xs → list_any f xs ≡ false
none_of f [] all = refl
none_of f (x ∷ xs) (away, all) = or_from (f x) (list_any f xs) away (none_of f xs all)

products_distinct : (item : ℕ) (selectors : List (ℕ × SelectorParts)) (decls : List (ℕ × Decl)) →
    IsDistinct (λ s t. same_selector t.1 s.1) selectors → DistinctDecls decls → Distinct (products item selectors decls)
unfolding IsDistinct
products_distinct item [] decls first second = tt
products_distinct item (s ∷ selectors) decls (away, first) second =
    subst Distinct (sym (flat_map-cons (λ t. map (placed item t) decls) s selectors))
    (distinct_append (map (placed item s) decls) (products item selectors decls) (one_distinct item s decls second) (products_distinct item selectors decls first second)
    (one_apart item s decls decls selectors (none_of (λ t. same_selector t.1 s.1) selectors away)))

-- ---- Pairs put from the last one on

abbrev put_back : List PlacedPair → List PlacedPair → List PlacedPair
put_back found [] = found
put_back found (p ∷ pairs) = insert_key (λ x y. same_pair y.pair x.pair) (put_back found pairs) p

back_is : (found pairs : List PlacedPair) → inserted found (reverse pairs) ≡ put_back found pairs
back_is found [] = refl
back_is found (p ∷ pairs) = ap (inserted found) (reverse_cons p pairs) ∙ inserted_append found (reverse pairs) (p ∷ [])
    ∙ ap (λ xs. insert_key (λ x y. same_pair y.pair x.pair) xs p) (back_is found pairs)

abbrev new_ones : List PlacedPair → List PlacedPair → List PlacedPair
new_ones found pairs = filter (not_among found) pairs

put_new : (found pairs : List PlacedPair) → Distinct pairs → put_back found pairs ≡ found ++ reverse (new_ones found pairs)
put_new found [] distinct = sym (append-nil found)
put_new found (p ∷ pairs) (new, distinct) =
    ap (λ xs. insert_key (λ x y. same_pair y.pair x.pair) xs p) (put_new found pairs distinct)
    ∙ ap (λ (b : Bool). if b then done else done ++ p ∷ []) there
    ∙ which (has_pair found p.pair)
  where
    others : List PlacedPair
    others = new_ones found pairs

    done : List PlacedPair
    done = found ++ reverse others

    or_none : (a b : Bool) → b ≡ false → (a || b) ≡ a
    or_none true b e = refl
    or_none false b e = e

    there : has_pair done p.pair ≡ has_pair found p.pair
    there = any_append (λ q. same_pair q.pair p.pair) found (reverse others)
        ∙ or_none (has_pair found p.pair) (has_pair (reverse others) p.pair)
        (any_reverse (λ q. same_pair q.pair p.pair) others ∙ any_filter (λ q. same_pair q.pair p.pair) (not_among found) pairs new)

    which : (b : Bool) → (if b then done else done ++ p ∷ []) ≡ found ++ reverse (if not b then p ∷ others else others)
    which true = refl
    which false = append_assoc found (reverse others) (p ∷ []) ∙ ap (λ ys. found ++ ys) (sym (reverse_cons p others))

turned_put : (found pairs : List PlacedPair) → Distinct pairs → PutsPairs found pairs (inserted found (reverse pairs))
turned_put found pairs distinct =
    ap reverse (back_is found pairs ∙ put_new found pairs distinct)
    ∙ reverse-append found (reverse (new_ones found pairs))
    ∙ ap (λ xs. xs ++ reverse found) (reverse-reverse (new_ones found pairs) ∙ ap (λ (f : PlacedPair → Bool). filter f pairs) (λ i p. not (sym (any_reverse (λ q. same_pair q.pair p.pair) found) i)))

-- ---- The pairs of a rule

products_turned : (item : ℕ) (selectors : List (ℕ × SelectorParts)) (decls : List (ℕ × Decl)) → products_back item selectors (reverse decls) ≡ reverse (products item selectors decls)
products_turned item [] decls = refl
products_turned item (s ∷ selectors) decls =
    ap (flat_map back) (reverse_cons s selectors)
    ∙ flat_map_append back (reverse selectors) (s ∷ [])
    ∙ ap₂ (λ (xs ys : List PlacedPair). xs ++ ys) (products_turned item selectors decls) (flat_map-cons back s [] ∙ append-nil (back s) ∙ map_reverse (placed item s) decls)
    ∙ sym (ap reverse (flat_map-cons (λ t. map (placed item t) decls) s selectors) ∙ reverse-append (map (placed item s) decls) (products item selectors decls))
  where
    back : ℕ × SelectorParts → List PlacedPair
    back t = map (placed item t) (reverse decls)

pub rule_put : (found new : List PlacedPair) (item : ℕ) (r : RuleParts) (selectors : List (ℕ × SelectorParts)) (decls : List (ℕ × Decl)) →
    selectors ≡ first_selectors 0 r.selectors → IsDistinct (λ s t. same_selector t.1 s.1) selectors → decls ≡ reverse (last_decls 0 r.decls) →
    new ≡ inserted found (products_back item selectors decls) → PutsPairs found (pairs_of item (kinds.Rule r)) new
rule_put found new item r selectors decls firsts distinct lasts put =
    let all = products item selectors (last_decls 0 r.decls) in
    ap reverse (put ∙ ap (λ ds. inserted found (products_back item selectors ds)) lasts ∙ ap (inserted found) (products_turned item selectors (last_decls 0 r.decls)))
    ∙ turned_put found all (products_distinct item selectors (last_decls 0 r.decls) distinct (lasts_distinct 0 r.decls))
    ∙ ap (λ ss. filter (not_among (reverse found)) (products item ss (last_decls 0 r.decls)) ++ reverse found) firsts
