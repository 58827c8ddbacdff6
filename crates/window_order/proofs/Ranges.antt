-- Elements of parts of a list.
use Rattle.std.proofs.Common.{◌≡◌, ℕ, zero, suc, ◌+◌, ◌-◌, ◌<◌, List, [], ◌∷◌, take, drop, Some, refl, sym, ap, ◌∙◌, arith}
use Rattle.std.specs.Prelude.{slice_get, slice_range}

pub get_drop : {X : Type 0} (xs : List X) (n i : ℕ) → slice_get (drop n xs) i ≡ slice_get xs (n + i)
get_drop {X} [] zero i = let e : 0 + i ≡ i = omega arith in ap (slice_get []) (sym e)
get_drop {X} [] (suc n) i = refl
get_drop {X} (x ∷ xs) zero i = let e : 0 + i ≡ i = omega arith in ap (slice_get (x ∷ xs)) (sym e)
get_drop {X} (x ∷ xs) (suc n) i = let e : suc n + i ≡ suc (n + i) = omega arith in get_drop xs n i ∙ ap (slice_get (x ∷ xs)) (sym e)

take_get : {X : Type 0} (xs : List X) (n i : ℕ) → i < n → slice_get (take n xs) i ≡ slice_get xs i
take_get {X} [] zero i less = refl
take_get {X} [] (suc n) i less = refl
take_get {X} (y ∷ xs) zero i less = absurd (omega arith)
take_get {X} (y ∷ xs) (suc n) zero less = refl
take_get {X} (y ∷ xs) (suc n) (suc i) less = take_get xs n i (omega arith)

pub at_range : {X : Type 0} (xs : List X) (i k j : ℕ) (x : X) → i + j < k → slice_get xs (i + j) ≡ Some x → slice_get (slice_range xs i k) j ≡ Some x
at_range {X} xs i k j x less at = take_get (drop i xs) (k - i) j (omega (arith, less)) ∙ get_drop xs i j ∙ at
