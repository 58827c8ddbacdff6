-- Laws of the part of a list between two places.
use Rattle.std.proofs.Common.{◌≡◌, ℕ, suc, ◌+◌, ◌-◌, ◌<◌, ◌≤◌, List, [], ◌∷◌, ◌++◌, length, get_or, take, drop, sym, ◌∙◌, ap, arith}
use Rattle.std.specs.List.{slice_range}
use Rattle.std.proofs.lemmas.List.{take-append-drop, take-take, drop-take, drop-drop, drop_more}

-- the first of m + n elements, and the others
pub take_parts : {X : Type 0} → (m n : ℕ) (xs : List X) → take (m + n) xs ≡ take m xs ++ take n (drop m xs)
take_parts m n xs =
    sym (take-append-drop m (take (m + n) xs))
    ∙ ap (λ front. front ++ drop m (take (m + n) xs)) (take-take m (m + n) xs (omega arith))
    ∙ ap (λ back. take m xs ++ back) (drop-take m n xs)

-- cut at a place
pub slice_range_parts : {X : Type 0} → (xs : List X) (i k j : ℕ) → i ≤ k → k ≤ j → slice_range xs i j ≡ slice_range xs i k ++ slice_range xs k j
slice_range_parts xs i k j low high =
    let sizes : j - i ≡ (k - i) + (j - k) = omega arith in
    let starts : i + (k - i) ≡ k = omega arith in
    ap (λ n. take n (drop i xs)) sizes
    ∙ take_parts (k - i) (j - k) (drop i xs)
    ∙ ap (λ back. slice_range xs i k ++ take (j - k) back) (drop-drop (k - i) i xs ∙ ap (λ n. drop n xs) starts)

-- its first element
pub slice_range-cons : {X : Type 0} → (xs : List X) (i j : ℕ) (d : X) → i < j → j ≤ length xs → slice_range xs i j ≡ get_or xs i d ∷ slice_range xs (i + 1) j
slice_range-cons xs i j d below inside =
    let size : j - i ≡ suc (j - (i + 1)) = omega arith in
    ap (λ n. take n (drop i xs)) size
    ∙ ap (λ rest. take (suc (j - (i + 1))) rest) (drop_more xs i d (omega arith))

-- nothing lies between a place and itself
pub slice_range_none : {X : Type 0} → (xs : List X) (i : ℕ) → slice_range xs i i ≡ []
slice_range_none xs i = let size : i - i ≡ 0 = omega arith in ap (λ n. take n (drop i xs)) size

-- its last element
pub slice_range_last : {X : Type 0} → (xs : List X) (i j : ℕ) (d : X) → i ≤ j → j < length xs → slice_range xs i (j + 1) ≡ slice_range xs i j ++ get_or xs j d ∷ []
slice_range_last xs i j d low inside =
    slice_range_parts xs i j (j + 1) low (omega arith)
    ∙ ap (λ back. slice_range xs i j ++ back) (slice_range-cons xs j (j + 1) d (omega arith) (omega arith) ∙ ap (λ rest. get_or xs j d ∷ rest) (slice_range_none xs (j + 1)))
