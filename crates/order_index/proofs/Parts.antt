-- A filter over a part of a list that rises.
use Rattle.std.proofs.Common.{◌≡◌, ◌+◌, ◌<◌, ◌≤◌, ℕ, zero, suc, Bool, true, false, cond, List, [], ◌∷◌, length, take, drop, get_or, refl, sym, ap, ◌∙◌, arith}
use Rattle.std.specs.Prelude.{nat_le}
use Rattle.std.specs.List.{Contains, filter, prefix_len}
use Rattle.std.specs.List.Sorted.{IsNonDecreasingBy}
use Rattle.list_facts.proofs.Members.{Contains-here, Contains-there}

one_more : (n : ℕ) → 1 + n ≡ suc n
one_more n = omega arith

pub drop_one : {X : Type 0} (n : ℕ) (x : X) (xs : List X) → drop (1 + n) (x ∷ xs) ≡ drop n xs
drop_one n x xs = ap (λ (m : ℕ). drop m (x ∷ xs)) (one_more n)

pub take_one : {X : Type 0} (n : ℕ) (x : X) (xs : List X) → take (1 + n) (x ∷ xs) ≡ x ∷ take n xs
take_one n x xs = ap (λ (m : ℕ). take m (x ∷ xs)) (one_more n)

-- what is left out in front does not pass
pub filter_behind : {X : Type 0} (f p : X → Bool) (xs : List X) → ((x : X) → Contains xs x → p x ≡ true → f x ≡ false) → filter f xs ≡ filter f (drop (prefix_len p xs) xs)
filter_behind f p [] h = refl
filter_behind {X} f p (x ∷ xs) h = which (p x) refl (filter_behind f p xs (λ y g. h y (Contains-there x xs y g)))
  where
    which : (b : Bool) → p x ≡ b → filter f xs ≡ filter f (drop (prefix_len p xs) xs) → filter f (x ∷ xs) ≡ filter f (drop (prefix_len p (x ∷ xs)) (x ∷ xs))
    which true e ih = rw e (rw (h x (Contains-here x xs) e) (ih ∙ ap (filter f) (sym (drop_one (prefix_len p xs) x xs))))
    which false e ih = rw e refl

-- what is left out behind does not pass: p holds of no more, once it does not
pub filter_before : {X : Type 0} (f : X → Bool) (n : X → ℕ) (t : ℕ) (xs : List X) → IsNonDecreasingBy n xs → ((x : X) → Contains xs x → t < n x → f x ≡ false) →
    filter f xs ≡ filter f (take (prefix_len (λ x. nat_le (n x) t) xs) xs)
filter_before f n t [] rises h = refl
filter_before {X} f n t (x ∷ xs) rises h =
    which (nat_le (n x) t) refl (filter_before f n t xs (λ i j d low high. rises (suc i) (suc j) d (omega (arith, low)) (omega (arith, high))) (λ y g. h y (Contains-there x xs y g)))
  where
    least : (ys : List X) → ((j : ℕ) (d : X) → j < length ys → n x ≤ n (get_or ys j d)) → t < n x → ((y : X) → Contains ys y → t < n y → f y ≡ false) → filter f ys ≡ []
    least [] low more g = refl
    least (y ∷ ys) low more g =
        let here : n x ≤ n y = low 0 y (omega arith) in
        let out : f y ≡ false = g y (Contains-here y ys) (omega (arith, here, more)) in
        rw out (least ys (λ j d high. low (suc j) d (omega (arith, high))) more (λ z c. g z (Contains-there y ys z c)))

    which : (b : Bool) → nat_le (n x) t ≡ b → filter f xs ≡ filter f (take (prefix_len (λ x. nat_le (n x) t) xs) xs) → filter f (x ∷ xs) ≡ filter f (take (prefix_len (λ x. nat_le (n x) t) (x ∷ xs)) (x ∷ xs))
    which true e ih = rw e (ap (λ (ys : List X). cond (f x) (x ∷ ys) ys) ih ∙ ap (filter f) (sym (take_one (prefix_len (λ x. nat_le (n x) t) xs) x xs)))
    which false e ih =
        let more : t < n x = grind (arith, e) in
        rw e (least (x ∷ xs) (λ j d high. rises 0 j d (omega arith) high) more h)

-- what is behind is in the whole
pub Contains-behind : {X : Type 0} (xs : List X) (n : ℕ) (x : X) → Contains (drop n xs) x → Contains xs x
Contains-behind xs zero x h = h
Contains-behind [] (suc n) x h = h
Contains-behind (y ∷ xs) (suc n) x h = Contains-there y xs x (Contains-behind xs n x h)
