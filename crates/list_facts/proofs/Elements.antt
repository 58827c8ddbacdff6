-- What holds of each element of a list (`AllByRecursion`) holds of those of its parts.
use Rattle.std.proofs.Common.{ℕ, zero, suc, ◌≡◌, ◌<◌, Bool, true, false, cond, List, [], ◌∷◌, length, take, drop, get_or, refl, subst, arith}
use Rattle.std.specs.List.{AllByRecursion, Contains, filter, slice_split, onto_first}

pub member : {X : Type 0} → (P : X → Type 0) (xs : List X) (x : X) → AllByRecursion P xs → Contains xs x → P x
member P [] x all h = absurd (omega arith)
member P (y ∷ ys) x (first, all) h = at h.0 h.1 h.2 (λ (h : Contains ys x). member P ys x all h)
  where
    at : (k : ℕ) → k < length (y ∷ ys) → get_or (y ∷ ys) k x ≡ x → (Contains ys x → P x) → P x
    at zero below is later = subst P is first
    at (suc k) below is later = later (k, omega arith, is)

pub all_with : {X : Type 0} → (P Q : X → Type 0) → ((x : X) → P x → Q x) → (xs : List X) → AllByRecursion P xs → AllByRecursion Q xs
all_with P Q f [] all = tt
all_with P Q f (x ∷ xs) (first, all) = (f x first, all_with P Q f xs all)

-- each element of a list is in it
pub all_in : {X : Type 0} → (xs : List X) → AllByRecursion (Contains xs) xs
all_in [] = tt
all_in (x ∷ xs) = ((0, omega arith, refl), all_with (Contains xs) (Contains (x ∷ xs)) (λ y h. (suc h.0, omega arith, h.2)) xs (all_in xs))

pub all_take : {X : Type 0} → (P : X → Type 0) (n : ℕ) (xs : List X) → AllByRecursion P xs → AllByRecursion P (take n xs)
all_take P zero xs all = tt
all_take P (suc n) [] all = tt
all_take P (suc n) (x ∷ xs) (first, all) = (first, all_take P n xs all)

pub all_drop : {X : Type 0} → (P : X → Type 0) (n : ℕ) (xs : List X) → AllByRecursion P xs → AllByRecursion P (drop n xs)
all_drop P zero xs all = all
all_drop P (suc n) [] all = tt
all_drop P (suc n) (x ∷ xs) (first, all) = all_drop P n xs all

pub all_if : {X : Type 0} → (P : X → Type 0) (b : Bool) (xs ys : List X) → AllByRecursion P xs → AllByRecursion P ys → AllByRecursion P (cond b xs ys)
all_if P true xs ys h k = h
all_if P false xs ys h k = k

-- a filter keeps what passes
pub all_filter : {X : Type 0} → (P : X → Type 0) (p : X → Bool) (xs : List X) → AllByRecursion P xs → AllByRecursion (λ x. P x × (p x ≡ true)) (filter p xs)
all_filter P p [] all = tt
all_filter P p (x ∷ xs) (first, all) = which (p x) refl (all_filter P p xs all)
  where
    which : (b : Bool) → p x ≡ b → AllByRecursion (λ y. P y × (p y ≡ true)) (filter p xs) → AllByRecursion (λ y. P y × (p y ≡ true)) (cond b (x ∷ filter p xs) (filter p xs))
    which true is later = ((first, is), later)
    which false is later = later

pub all_onto : {X : Type 0} → (P : X → Type 0) (x : X) (parts : List (List X)) → P x → AllByRecursion (AllByRecursion P) parts → AllByRecursion (AllByRecursion P) (onto_first x parts)
all_onto P x [] first all = ((first, tt), tt)
all_onto P x (part ∷ parts) first (front, all) = ((first, front), all)

pub all_split : {X : Type 0} → (P : X → Type 0) (p : X → Bool) (xs : List X) → AllByRecursion P xs → AllByRecursion (AllByRecursion P) (slice_split p xs)
all_split P p [] all = (tt, tt)
all_split P p (x ∷ xs) (first, all) =
    let later = all_split P p xs all in
    all_if (AllByRecursion P) (p x) ([] ∷ slice_split p xs) (onto_first x (slice_split p xs)) (tt, later) (all_onto P x (slice_split p xs) first later)
