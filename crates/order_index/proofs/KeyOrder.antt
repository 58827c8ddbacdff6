-- The order of entries by their keys.
use Rattle.std.proofs.Common.{◌≡◌, ◌⊎◌, ℕ, ◌<◌, true, false, List, [], ◌∷◌, ◌++◌, sym, ap, ◌∙◌, subst, inl, inr, arith}
use Rattle.std.proofs.lemmas.Bool.{false≢true, false_from_ne_true}
use Rattle.std.proofs.lemmas.Bool.Decides.{nat_tests}
use Rattle.cascade_laws.proofs.ForCallers.{exceeds-irreflexive, exceeds-transitive}
use Rattle.css_model.specs.Cascade.Winner.{exceeds}
use Rattle.order_index.specs.Told.{far_of}
use Rattle.order_index.specs.Others.{Later, place_key}
use Rattle.order_laws.specs.Places.{PairPlace, PlacedPair}
use Rattle.order_laws.specs.Reversed.{AnotherPair, Reversal, other_place, sort_key}

-- what exceeds is not exceeded
one_way : (xs ys : List ℕ) → exceeds xs ys ≡ true → exceeds ys xs ≡ false
one_way xs ys h = false_from_ne_true (exceeds ys xs) (λ g. false≢true (sym (exceeds-irreflexive xs) ∙ exceeds-transitive xs ys xs h g))

by_first : (x y : ℕ) (xs ys : List ℕ) → y < x → exceeds (x ∷ xs) (y ∷ ys) ≡ true
by_first x y xs ys h = grind (arith, nat_tests)

by_rest : (x y : ℕ) (xs ys : List ℕ) → x ≡ y → exceeds xs ys ≡ true → exceeds (x ∷ xs) (y ∷ ys) ≡ true
by_rest x y xs ys e h = grind (arith, nat_tests)

pub which_first : (x y : ℕ) (xs ys : List ℕ) → exceeds (x ∷ xs) (y ∷ ys) ≡ true → (y < x) ⊎ ((x ≡ y) × (exceeds xs ys ≡ true))
which_first x y xs ys h = grind (arith, nat_tests)

-- what exceeds does whatever is put to both
by_front : (xs ys us vs : List ℕ) → exceeds xs ys ≡ true → exceeds (xs ++ us) (ys ++ vs) ≡ true
by_front [] ys us vs h = absurd (false≢true h)
by_front (x ∷ xs) [] us vs h = absurd (false≢true h)
by_front (x ∷ xs) (y ∷ ys) us vs h = which (λ g. by_front xs ys us vs g) (which_first x y xs ys h)
  where
    which : (exceeds xs ys ≡ true → exceeds (xs ++ us) (ys ++ vs) ≡ true) → (y < x) ⊎ ((x ≡ y) × (exceeds xs ys ≡ true)) → exceeds (x ∷ (xs ++ us)) (y ∷ (ys ++ vs)) ≡ true
    which ih (inl less) = by_first x y (xs ++ us) (ys ++ vs) less
    which ih (inr same) = by_rest x y (xs ++ us) (ys ++ vs) same.0 (ih same.1)

abbrev place_then : PairPlace → List ℕ → List ℕ
place_then p rest = p.item ∷ p.selector ∷ p.decl ∷ rest

pub by_far : (r s : Reversal) → far_of r < far_of s → exceeds (sort_key r) (sort_key s) ≡ false
by_far r s less = one_way (sort_key s) (sort_key r) (by_first (far_of s) (far_of r) (place_then (other_place s.other) (place_key s.moved)) (place_then (other_place r.other) (place_key r.moved)) less)

pub by_item : (r s : Reversal) → far_of r ≡ far_of s → (other_place r.other).item < (other_place s.other).item → exceeds (sort_key r) (sort_key s) ≡ false
by_item r s far less =
    one_way (sort_key s) (sort_key r)
    (by_rest (far_of s) (far_of r) (place_then (other_place s.other) (place_key s.moved)) (place_then (other_place r.other) (place_key r.moved)) (sym far)
    (by_first (other_place s.other).item (other_place r.other).item ((other_place s.other).selector ∷ (other_place s.other).decl ∷ place_key s.moved) ((other_place r.other).selector ∷ (other_place r.other).decl ∷ place_key r.moved) less))

pub by_pair : (r s : Reversal) (p q : PlacedPair) → r.other ≡ AnotherPair p → s.other ≡ AnotherPair q → far_of r ≡ far_of s → Later p q → exceeds (sort_key r) (sort_key s) ≡ false
by_pair r s p q first second far later =
    let places : exceeds (place_then q.place (place_key s.moved)) (place_then p.place (place_key r.moved)) ≡ true = by_front (place_key q) (place_key p) (place_key s.moved) (place_key r.moved) later in
    let others : exceeds (place_then (other_place s.other) (place_key s.moved)) (place_then (other_place r.other) (place_key r.moved)) ≡ true =
    subst (λ (a : PairPlace). exceeds (place_then a (place_key s.moved)) (place_then (other_place r.other) (place_key r.moved)) ≡ true) (sym (ap other_place second))
    (subst (λ (b : PairPlace). exceeds (place_then q.place (place_key s.moved)) (place_then b (place_key r.moved)) ≡ true) (sym (ap other_place first)) places)
    in
    one_way (sort_key s) (sort_key r) (by_rest (far_of s) (far_of r) (place_then (other_place s.other) (place_key s.moved)) (place_then (other_place r.other) (place_key r.moved)) (sym far) others)

pub by_moved : (r s : Reversal) → r.other ≡ s.other → far_of r ≡ far_of s → Later r.moved s.moved → exceeds (sort_key r) (sort_key s) ≡ false
by_moved r s other far later =
    let a : PairPlace = other_place s.other in
    let b : PairPlace = other_place r.other in
    let same : a ≡ b = ap other_place (sym other) in
    one_way (sort_key s) (sort_key r)
    (by_rest (far_of s) (far_of r) (place_then a (place_key s.moved)) (place_then b (place_key r.moved)) (sym far)
    (by_rest a.item b.item (a.selector ∷ a.decl ∷ place_key s.moved) (b.selector ∷ b.decl ∷ place_key r.moved) (ap (λ (x : PairPlace). x.item) same)
    (by_rest a.selector b.selector (a.decl ∷ place_key s.moved) (b.decl ∷ place_key r.moved) (ap (λ (x : PairPlace). x.selector) same)
    (by_rest a.decl b.decl (place_key s.moved) (place_key r.moved) (ap (λ (x : PairPlace). x.decl) same) later))))
