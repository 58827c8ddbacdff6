-- Mapped, filtered and joined lists, and tests that agree.
use Rattle.std.proofs.Common.{◌≡◌, Bool, true, false, List, [], ◌∷◌, ◌++◌, map, reverse, refl, sym, ap, ap₂, ◌∙◌}
use Rattle.std.specs.Prelude.{◌&&◌, ◌||◌, if◌then◌else◌}
use Rattle.std.specs.List.{filter, flat_map, list_any}
use Rattle.std.proofs.lemmas.Bool.{true≢false, false≢true}
use Rattle.std.proofs.lemmas.Grind.{flat_map-append}
use Rattle.std.proofs.lemmas.List.{map-append, reverse-append}
use Rattle.std.proofs.lemmas.List.Elements.{filter-append}

-- two tests of which each holds where the other one does
pub same_test : (a b : Bool) → (a ≡ true → b ≡ true) → (b ≡ true → a ≡ true) → a ≡ b
same_test true true f g = refl
same_test true false f g = absurd (false≢true (f refl))
same_test false true f g = absurd (false≢true (g refl))
same_test false false f g = refl

pub any_append : {X : Type 0} (f : X → Bool) (xs ys : List X) → list_any f (xs ++ ys) ≡ (list_any f xs || list_any f ys)
any_append f [] ys = refl
any_append f (x ∷ xs) ys = which (f x) (any_append f xs ys)
  where
    which : (b : Bool) → list_any f (xs ++ ys) ≡ (list_any f xs || list_any f ys) → (b || list_any f (xs ++ ys)) ≡ ((b || list_any f xs) || list_any f ys)
    which true ih = refl
    which false ih = ih

pub map_append : {X Y : Type 0} (f : X → Y) (xs ys : List X) → map f (xs ++ ys) ≡ map f xs ++ map f ys
map_append f xs ys = map-append f xs ys

pub filter_append : {X : Type 0} (p : X → Bool) (xs ys : List X) → filter p (xs ++ ys) ≡ filter p xs ++ filter p ys
filter_append p xs ys = filter-append p xs ys

pub flat_map_append : {X Y : Type 0} (f : X → List Y) (xs ys : List X) → flat_map f (xs ++ ys) ≡ flat_map f xs ++ flat_map f ys
flat_map_append f xs ys = flat_map-append f xs ys

-- a filter of a filter is one filter
pub filter_both : {X : Type 0} (p q r : X → Bool) → ((x : X) → r x ≡ (q x && p x)) → (xs : List X) → filter p (filter q xs) ≡ filter r xs
filter_both p q r h [] = refl
filter_both {X = X} p q r h (x ∷ xs) = which (q x) (p x) (r x) refl (h x) (filter_both p q r h xs)
  where
    which : (a b c : Bool) → p x ≡ b → c ≡ (a && b) → filter p (filter q xs) ≡ filter r xs → filter p (if a then x ∷ filter q xs else filter q xs) ≡ (if c then x ∷ filter r xs else filter r xs)
    which false b true e h ih = absurd (false≢true (sym h))
    which false b false e h ih = ih
    which true b c e h ih = passed b c e h
      where
        passed : (b c : Bool) → p x ≡ b → c ≡ b → filter p (x ∷ filter q xs) ≡ (if c then x ∷ filter r xs else filter r xs)
        passed true true e h = ap (λ (t : Bool). if t then x ∷ filter p (filter q xs) else filter p (filter q xs)) e ∙ ap (λ ys. x ∷ ys) ih
        passed true false e h = absurd (false≢true h)
        passed false true e h = absurd (false≢true (sym h))
        passed false false e h = ap (λ (t : Bool). if t then x ∷ filter p (filter q xs) else filter p (filter q xs)) e ∙ ih

pub filter_all : {X : Type 0} (p : X → Bool) → ((x : X) → p x ≡ true) → (xs : List X) → filter p xs ≡ xs
filter_all p h [] = refl
filter_all p h (x ∷ xs) = ap (λ (t : Bool). if t then x ∷ filter p xs else filter p xs) (h x) ∙ ap (λ ys. x ∷ ys) (filter_all p h xs)

-- ---- Lists from the last item to the first

pub reverse_cons : {X : Type 0} (x : X) (xs : List X) → reverse (x ∷ xs) ≡ reverse xs ++ x ∷ []
reverse_cons x xs = reverse-append (x ∷ []) xs

pub reverse_push : {X : Type 0} (xs : List X) (x : X) → reverse (xs ++ x ∷ []) ≡ x ∷ reverse xs
reverse_push xs x = reverse-append xs (x ∷ [])

pub map_reverse : {X Y : Type 0} (f : X → Y) (xs : List X) → map f (reverse xs) ≡ reverse (map f xs)
map_reverse f [] = refl
map_reverse f (x ∷ xs) = ap (map f) (reverse_cons x xs) ∙ map-append f (reverse xs) (x ∷ []) ∙ ap (λ ys. ys ++ f x ∷ []) (map_reverse f xs) ∙ sym (reverse_cons (f x) (map f xs))

pub any_reverse : {X : Type 0} (f : X → Bool) (xs : List X) → list_any f (reverse xs) ≡ list_any f xs
any_reverse f [] = refl
any_reverse f (x ∷ xs) = ap (list_any f) (reverse_cons x xs) ∙ any_append f (reverse xs) (x ∷ []) ∙ turned (f x) (list_any f (reverse xs)) (list_any f xs) (any_reverse f xs)
  where
    turned : (a b c : Bool) → b ≡ c → (b || (a || false)) ≡ (a || c)
    turned true true c e = refl
    turned true false c e = refl
    turned false true c e = e
    turned false false c e = e

-- ---- Tests that some item passes

pub any_map : {X Y : Type 0} (f : Y → Bool) (g : X → Y) (xs : List X) → list_any f (map g xs) ≡ list_any (λ x. f (g x)) xs
any_map f g [] = refl
any_map f g (x ∷ xs) = ap (λ (b : Bool). f (g x) || b) (any_map f g xs)

pub any_never : {X : Type 0} (f : X → Bool) → ((x : X) → f x ≡ false) → (xs : List X) → list_any f xs ≡ false
any_never f h [] = refl
any_never f h (x ∷ xs) = ap₂ (λ (a b : Bool). a || b) (h x) (any_never f h xs)

-- where no item passes a test, none passes a stronger one
pub any_weaker : {X : Type 0} (f g : X → Bool) → ((x : X) → f x ≡ true → g x ≡ true) → (xs : List X) → list_any g xs ≡ false → list_any f xs ≡ false
any_weaker f g h [] none = refl
any_weaker f g h (x ∷ xs) none = which (f x) (g x) (h x) none (any_weaker f g h xs)
  where
    which : (a b : Bool) → (a ≡ true → b ≡ true) → (b || list_any g xs) ≡ false → (list_any g xs ≡ false → list_any f xs ≡ false) → (a || list_any f xs) ≡ false
    which a true h none ih = absurd (true≢false none)
    which true false h none ih = absurd (false≢true (h refl))
    which false false h none ih = ih none

pub any_filter : {X : Type 0} (f p : X → Bool) (xs : List X) → list_any f xs ≡ false → list_any f (filter p xs) ≡ false
any_filter f p [] none = refl
any_filter f p (x ∷ xs) none = which (p x) (f x) refl none (any_filter f p xs)
  where
    which : (a b : Bool) → f x ≡ b → (b || list_any f xs) ≡ false → (list_any f xs ≡ false → list_any f (filter p xs) ≡ false) →
        list_any f (if a then x ∷ filter p xs else filter p xs) ≡ false
    which a true e none ih = absurd (true≢false none)
    which true false e none ih = ap (λ (c : Bool). c || list_any f (filter p xs)) e ∙ ih none
    which false false e none ih = ih none
