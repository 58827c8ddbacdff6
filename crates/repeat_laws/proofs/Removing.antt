-- What stands where in a list from which one element was removed.
use Rattle.std.proofs.Common.{◌≡◌, ◌≢◌, ◌⊎◌, ℕ, zero, suc, ◌<◌, List, [], ◌∷◌, length, Some, None, refl, ap, inl, inr, arith}
use Rattle.std.specs.Prelude.{slice_get}
use Rattle.std.specs.List.{remove}

-- an element that is there has a place
pub inside : {X : Type 0} (xs : List X) (i : ℕ) (x : X) → slice_get xs i ≡ Some x → i < length xs
inside [] i x at = absurd (let e : None ≡ Some x = at in cc)
inside (y ∷ xs) zero x at = omega arith
inside (y ∷ xs) (suc i) x at = let less = inside xs i x at in omega (arith, less)

-- the place of another element before and after
abbrev pub Shifts : (i p q : ℕ) → Type 0
Shifts i p q = ((p < i) × (q ≡ p)) ⊎ ((i < p) × (p ≡ suc q))

up : (i p q : ℕ) → Shifts i p q → Shifts (suc i) (suc p) (suc q)
up i p q (inl (less, is)) = inl (omega (arith, less), ap suc is)
up i p q (inr (more, is)) = inr (omega (arith, more), ap suc is)

pub removed_there : {X : Type 0} (xs : List X) (i p : ℕ) (x : X) → slice_get xs p ≡ Some x → p ≢ i → (q : ℕ) × Shifts i p q × (slice_get (remove xs i) q ≡ Some x)
removed_there [] i p x at other = absurd (let e : None ≡ Some x = at in cc)
removed_there (y ∷ xs) zero zero x at other = absurd (other refl)
removed_there (y ∷ xs) zero (suc p) x at other = (p, inr (omega arith, refl), at)
removed_there (y ∷ xs) (suc i) zero x at other = (zero, inl (omega arith, refl), at)
removed_there (y ∷ xs) (suc i) (suc p) x at other = let w = removed_there xs i p x at (λ e. other (ap suc e)) in (suc w.0, up i p w.0 w.1, w.2)

pub removed_back : {X : Type 0} (xs : List X) (i q : ℕ) (x : X) → slice_get (remove xs i) q ≡ Some x → (p : ℕ) × Shifts i p q × (slice_get xs p ≡ Some x)
removed_back [] zero q x at = absurd (let e : None ≡ Some x = at in cc)
removed_back [] (suc i) q x at = absurd (let e : None ≡ Some x = at in cc)
removed_back (y ∷ xs) zero q x at = (suc q, inr (omega arith, refl), at)
removed_back (y ∷ xs) (suc i) zero x at = (zero, inl (omega arith, refl), at)
removed_back (y ∷ xs) (suc i) (suc q) x at = let w = removed_back xs i q x at in (suc w.0, up i w.0 q w.1, w.2)

-- the order of others stays
pub shifts_there : (i p q p' q' : ℕ) → Shifts i p q → Shifts i p' q' → p < p' → q < q'
shifts_there i p q p' q' (inl (a, b)) (inl (c, d)) less = omega (arith, a, b, c, d, less)
shifts_there i p q p' q' (inl (a, b)) (inr (c, d)) less = omega (arith, a, b, c, d, less)
shifts_there i p q p' q' (inr (a, b)) (inl (c, d)) less = omega (arith, a, b, c, d, less)
shifts_there i p q p' q' (inr (a, b)) (inr (c, d)) less = omega (arith, a, b, c, d, less)

pub shifts_back : (i p q p' q' : ℕ) → Shifts i p q → Shifts i p' q' → q < q' → p < p'
shifts_back i p q p' q' (inl (a, b)) (inl (c, d)) less = omega (arith, a, b, c, d, less)
shifts_back i p q p' q' (inl (a, b)) (inr (c, d)) less = omega (arith, a, b, c, d, less)
shifts_back i p q p' q' (inr (a, b)) (inl (c, d)) less = omega (arith, a, b, c, d, less)
shifts_back i p q p' q' (inr (a, b)) (inr (c, d)) less = omega (arith, a, b, c, d, less)

pub same_or_not : (p i : ℕ) → (p ≡ i) ⊎ (p ≢ i)
same_or_not zero zero = inl refl
same_or_not zero (suc i) = inr (λ e. omega (arith, e))
same_or_not (suc p) zero = inr (λ e. omega (arith, e))
same_or_not (suc p) (suc i) = which (same_or_not p i)
  where
    which : (p ≡ i) ⊎ (p ≢ i) → (suc p ≡ suc i) ⊎ (suc p ≢ suc i)
    which (inl e) = inl (ap suc e)
    which (inr f) = inr (λ e. f (omega (arith, e)))

-- a list from which one of two elements was removed is not empty
pub some_left : {X : Type 0} (xs : List X) (i p : ℕ) (x : X) → slice_get xs p ≡ Some x → p ≢ i → remove xs i ≢ []
some_left xs i p x at other none =
    let w = removed_there xs i p x at other in
    let e : slice_get [] w.0 ≡ Some x = rw none at w.2 in
    let f : None ≡ Some x = e in cc
