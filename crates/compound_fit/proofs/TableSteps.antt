-- Fits at the end of others.
use Rattle.std.proofs.Common.{◌≡◌, ◌⊎◌, inl, inr, ℕ, zero, suc, ◌+◌, ◌<◌, List, [], ◌∷◌, ◌++◌, length, take, drop, drop-cons, map, Option, Result, Ok, Err, sym, ap, subst, ◌∙◌, arith, append_assoc, get_or}
use Rattle.std.specs.Prelude.{IfErr, OnOk}
use Rattle.std.proofs.lemmas.List.{append-nil, map-append}
use Rattle.std.proofs.lemmas.Grind.{flat_map-append}
use Rattle.std.proofs.lemmas.List.Elements.{All-cons, All-head, All-nil, All-tail, Contains-append_left, Contains-append_right}
use Rattle.std.specs.List.{All, Contains, flat_map}
use Rattle.css_model.specs.declared.selector.Simple.{Simple}
use Rattle.css_model.specs.Documents.FeatureParts.{FeatureParts}
use Rattle.list_facts.proofs.Members.{Contains-cons_cases, Contains-here, Contains-nil, Contains-there}
use Rattle.list_facts.proofs.SliceRange.{take_parts}
use Rattle.compound_fit.specs.declared.compound.FitError.{FitError}
use Rattle.compound_fit.specs.declared.compound.FitError.TheVariants.{SpacesTaken, NoMemory}
use Rattle.compound_fit.specs.Fitting.{IsFit}
use Rattle.compound_fit.specs.Table.{AddsFits, AreFits, NoFits, with_each}

fits_append : (fs hs : List (Option FeatureParts)) (gs ks : List (List Simple)) → AreFits fs gs → AreFits hs ks → AreFits (fs ++ hs) (gs ++ ks)
fits_append [] hs [] ks a b = b
fits_append [] hs (g ∷ gs) ks a b = absurd a
fits_append (f ∷ fs) hs [] ks a b = absurd a
fits_append (f ∷ fs) hs (g ∷ gs) ks a b = (a.0, fits_append fs hs gs ks a.1 b)

pub adds_none : (old : List (Option FeatureParts)) → AddsFits old old []
adds_none old = record { more = []; is = sym (append-nil old); fit = tt }

pub adds_one : (old new : List (Option FeatureParts)) (found : Option FeatureParts) (g : List Simple) → new ≡ old ++ found ∷ [] → IsFit (Ok found) g → AddsFits old new (g ∷ [])
adds_one old new found g e fit = record { more = found ∷ []; is = e; fit = (fit, tt) }

pub adds_then : (a b c : List (Option FeatureParts)) (gs ks : List (List Simple)) → AddsFits a b gs → AddsFits b c ks → AddsFits a c (gs ++ ks)
adds_then a b c gs ks first second = record {
  more = first.more ++ second.more;
  is = second.is ∙ ap (λ (t : List (Option FeatureParts)). t ++ second.more) first.is ∙ append_assoc a first.more second.more;
  fit = fits_append first.more second.more gs ks first.fit second.fit;
}

pub take_more : {X : Type 0} → (xs : List X) (i : ℕ) (x : X) → i < length xs → x ≡ get_or xs i x → take (i + 1) xs ≡ take i xs ++ x ∷ []
take_more xs i x lt is =
    take_parts i 1 xs ∙ ap (λ t. take i xs ++ take 1 t) (drop-cons xs i x lt ∙ ap (λ y. y ∷ drop (suc i) xs) (sym is))

-- one compound more
pub alone_more : (a b c : List (Option FeatureParts)) (xs : List (List Simple)) (i : ℕ) (x : List Simple) → i < length xs → x ≡ get_or xs i x → AddsFits a b (take i xs) → AddsFits b c (x ∷ []) → AddsFits a c (take (i + 1) xs)
alone_more a b c xs i x lt is before one = subst (AddsFits a c) (sym (take_more xs i x lt is)) (adds_then a b c (take i xs) (x ∷ []) before one)

pub with_more : (a b c : List (Option FeatureParts)) (first : List Simple) (xs : List (List Simple)) (i : ℕ) (x : List Simple) → i < length xs → x ≡ get_or xs i x →
    AddsFits a b (with_each first (take i xs)) → AddsFits b c ((first ++ x) ∷ []) → AddsFits a c (with_each first (take (i + 1) xs))
with_more a b c first xs i x lt is before one =
    subst (AddsFits a c) (sym (ap (with_each first) (take_more xs i x lt is) ∙ map-append (λ d. first ++ d) (take i xs) (x ∷ [])))
    (adds_then a b c (with_each first (take i xs)) ((first ++ x) ∷ []) before one)

pub pairs_more : (a b c : List (Option FeatureParts)) (ys xs : List (List Simple)) (i : ℕ) (x : List Simple) → i < length xs → x ≡ get_or xs i x →
    AddsFits a b (flat_map (λ c. with_each c ys) (take i xs)) → AddsFits b c (with_each x ys) → AddsFits a c (flat_map (λ c. with_each c ys) (take (i + 1) xs))
pairs_more a b c ys xs i x lt is before one =
    subst (AddsFits a c)
    (sym (ap (flat_map (λ c. with_each c ys)) (take_more xs i x lt is) ∙ flat_map-append (λ c. with_each c ys) (take i xs) (x ∷ []) ∙ ap (λ (t : List (List Simple)). flat_map (λ c. with_each c ys) (take i xs) ++ t) (append-nil (with_each x ys))))
    (adds_then a b c (flat_map (λ c. with_each c ys) (take i xs)) (with_each x ys) before one)

-- what holds of all holds of one
pub at_place : {X : Type 0} → (P : X → Type 0) (xs : List X) (i : ℕ) (x : X) → i < length xs → x ≡ get_or xs i x → All P xs → P x
at_place P xs i x lt is all = subst P (sym is) (all i x lt)

pub first_part : {X : Type 0} → (P : X → Type 0) (xs ys : List X) → All P (xs ++ ys) → All P xs
first_part P [] ys all = All-nil P
first_part P (x ∷ xs) ys all = All-cons P x xs (All-head P x (xs ++ ys) all) (first_part P xs ys (All-tail P x (xs ++ ys) all))

pub second_part : {X : Type 0} → (P : X → Type 0) (xs ys : List X) → All P (xs ++ ys) → All P ys
second_part P [] ys all = all
second_part P (x ∷ xs) ys all = second_part P xs ys (All-tail P x (xs ++ ys) all)

pub map_place : (P : List Simple → Type 0) (f : List Simple → List Simple) (xs : List (List Simple)) (i : ℕ) (x : List Simple) → i < length xs → x ≡ get_or xs i x → All P (map f xs) → P (f x)
map_place P f [] i x lt is all = absurd (let bad : ⊥ = omega arith in bad)
map_place P f (y ∷ xs) zero x lt is all = subst (λ (g : List Simple). P (f g)) (sym is) (All-head P (f y) (map f xs) all)
map_place P f (y ∷ xs) (suc i) x lt is all = map_place P f xs i x (omega arith) is (All-tail P (f y) (map f xs) all)

pub flat_place : (P : List Simple → Type 0) (f : List Simple → List (List Simple)) (xs : List (List Simple)) (i : ℕ) (x : List Simple) → i < length xs → x ≡ get_or xs i x → All P (flat_map f xs) → All P (f x)
flat_place P f [] i x lt is all = absurd (let bad : ⊥ = omega arith in bad)
flat_place P f (y ∷ xs) zero x lt is all = subst (λ (g : List Simple). All P (f g)) (sym is) (first_part P (f y) (flat_map f xs) all)
flat_place P f (y ∷ xs) (suc i) x lt is all = flat_place P f xs i x (omega arith) is (second_part P (f y) (flat_map f xs) all)

-- a group that stands among more
pub no_fits_in : (e : FitError) (gs ks : List (List Simple)) → ((g : List Simple) → Contains gs g → Contains ks g) → NoFits e gs → NoFits e ks
no_fits_in SpacesTaken gs ks into none = (none.0, into none.0 none.1, none.2)
no_fits_in NoMemory gs ks into none = tt

pub one_of : (ks : List (List Simple)) (x : List Simple) → Contains ks x → (g : List Simple) → Contains (x ∷ []) g → Contains ks g
one_of ks x has g in_one = cases (Contains-cons_cases x [] g in_one)
  where
    cases : (x ≡ g) ⊎ Contains [] g → Contains ks g
    cases (inl same) = subst (Contains ks) same has
    cases (inr none) = absurd (Contains-nil g none)

pub map_contains : (f : List Simple → List Simple) (xs : List (List Simple)) (i : ℕ) (x : List Simple) → i < length xs → x ≡ get_or xs i x → Contains (map f xs) (f x)
map_contains f [] i x lt is = absurd (let bad : ⊥ = omega arith in bad)
map_contains f (y ∷ xs) zero x lt is = subst (λ (g : List Simple). Contains (f y ∷ map f xs) (f g)) (sym is) (Contains-here (f y) (map f xs))
map_contains f (y ∷ xs) (suc i) x lt is = Contains-there (f y) (map f xs) (f x) (map_contains f xs i x (omega arith) is)

pub flat_contains : (f : List Simple → List (List Simple)) (xs : List (List Simple)) (i : ℕ) (x g : List Simple) → i < length xs → x ≡ get_or xs i x → Contains (f x) g → Contains (flat_map f xs) g
flat_contains f [] i x g lt is has = absurd (let bad : ⊥ = omega arith in bad)
flat_contains f (y ∷ xs) zero x g lt is has = Contains-append_left (f y) (flat_map f xs) g (subst (λ (h : List Simple). Contains (f h) g) is has)
flat_contains f (y ∷ xs) (suc i) x g lt is has = Contains-append_right (f y) (flat_map f xs) g (flat_contains f xs i x g (omega arith) is has)

pub at_contains : (xs : List (List Simple)) (i : ℕ) (x : List Simple) → i < length xs → x ≡ get_or xs i x → Contains xs x
at_contains xs i x lt is = (i, lt, sym is)

-- what follows from a result
pub on_ok : {A E P Q : Type 0} → (r : Result A E) → (P → Q) → OnOk r P → OnOk r Q
on_ok (Ok x) f h = f h
on_ok (Err e) f h = h

pub if_err : {A E : Type 0} → (P Q : E → Type 0) (r : Result A E) → ((e : E) → P e → Q e) → IfErr r P → IfErr r Q
if_err P Q (Ok x) f h = h
if_err P Q (Err e) f h = f e h
