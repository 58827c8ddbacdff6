-- What moving an element by one place leaves.
use Rattle.std.proofs.Common.{◌≡◌, ℕ, zero, suc, ◌<◌, ◌∙◌, List, [], ◌∷◌, length, get_or, set, refl, ap, arith}
use Rattle.std.proofs.lemmas.List.Edits.{length-swap, swap_is}
use Rattle.std.specs.Prelude.{slice_get}
use Rattle.std.specs.List.{remove, swap}
use Rattle.spare_list.specs.Moved.{IsMoved}

-- two neighbours in each other's place
abbrev swapped : {X : Type 0} → List X → ℕ → X → List X
swapped xs i d = set (set xs i (get_or xs (suc i) d)) (suc i) (get_or xs i d)

swapped-remove_first : {X : Type 0} (xs : List X) (i : ℕ) (d : X) → suc i < length xs → remove (swapped xs i d) i ≡ remove xs (suc i)
swapped-remove_first [] i d h = absurd (omega arith)
swapped-remove_first (a ∷ []) i d h = absurd (omega arith)
swapped-remove_first (a ∷ b ∷ xs) zero d h = refl
swapped-remove_first (a ∷ b ∷ xs) (suc i) d h = ap (λ l. a ∷ l) (swapped-remove_first (b ∷ xs) i d (omega arith))

swapped-remove_second : {X : Type 0} (xs : List X) (i : ℕ) (d : X) → suc i < length xs → remove (swapped xs i d) (suc i) ≡ remove xs i
swapped-remove_second [] i d h = absurd (omega arith)
swapped-remove_second (a ∷ []) i d h = absurd (omega arith)
swapped-remove_second (a ∷ b ∷ xs) zero d h = refl
swapped-remove_second (a ∷ b ∷ xs) (suc i) d h = ap (λ l. a ∷ l) (swapped-remove_second (b ∷ xs) i d (omega arith))

swapped-get_first : {X : Type 0} (xs : List X) (i : ℕ) (d : X) → suc i < length xs → slice_get (swapped xs i d) i ≡ slice_get xs (suc i)
swapped-get_first [] i d h = absurd (omega arith)
swapped-get_first (a ∷ []) i d h = absurd (omega arith)
swapped-get_first (a ∷ b ∷ xs) zero d h = refl
swapped-get_first (a ∷ b ∷ xs) (suc i) d h = swapped-get_first (b ∷ xs) i d (omega arith)

swapped-get_second : {X : Type 0} (xs : List X) (i : ℕ) (d : X) → suc i < length xs → slice_get (swapped xs i d) (suc i) ≡ slice_get xs i
swapped-get_second [] i d h = absurd (omega arith)
swapped-get_second (a ∷ []) i d h = absurd (omega arith)
swapped-get_second (a ∷ b ∷ xs) zero d h = refl
swapped-get_second (a ∷ b ∷ xs) (suc i) d h = swapped-get_second (b ∷ xs) i d (omega arith)

lowered_by_one : {X : Type 0} (old xs ys : List X) (from i : ℕ) → suc i < length xs → ys ≡ swap xs i (suc i) → IsMoved old xs from (suc i) → IsMoved old ys from i
lowered_by_one old [] ys from i h is was = absurd (omega arith)
lowered_by_one old (a ∷ xs) ys from i h is was =
    let swap_as = swap_is (a ∷ xs) i (suc i) a (omega arith) h in
    record {
      as_many = ap length is ∙ length-swap (a ∷ xs) i (suc i) ∙ was.as_many;
      moved = rw (is, ← swap_as) (swapped-get_first (a ∷ xs) i a h ∙ was.moved);
      others = rw (is, ← swap_as) (swapped-remove_first (a ∷ xs) i a h ∙ was.others);
    }

raised_by_one : {X : Type 0} (old xs ys : List X) (from i : ℕ) → suc i < length xs → ys ≡ swap xs i (suc i) → IsMoved old xs from i → IsMoved old ys from (suc i)
raised_by_one old [] ys from i h is was = absurd (omega arith)
raised_by_one old (a ∷ xs) ys from i h is was =
    let swap_as = swap_is (a ∷ xs) i (suc i) a (omega arith) h in
    record {
      as_many = ap length is ∙ length-swap (a ∷ xs) i (suc i) ∙ was.as_many;
      moved = rw (is, ← swap_as) (swapped-get_second (a ∷ xs) i a h ∙ was.moved);
      others = rw (is, ← swap_as) (swapped-remove_second (a ∷ xs) i a h ∙ was.others);
    }

-- the element of a place is swapped with the one before it
pub lowered : {X : Type 0} (old xs ys : List X) (from i j : ℕ) → j ≡ suc i → j < length xs → ys ≡ swap xs i j → IsMoved old xs from j → IsMoved old ys from i
lowered old xs ys from i j next h is was = lowered_by_one old xs ys from i (rw next at h) (rw next at is) (rw next at was)

-- the element of a place is swapped with the one after it
pub raised : {X : Type 0} (old xs ys : List X) (from i j : ℕ) → j ≡ suc i → j < length xs → ys ≡ swap xs i j → IsMoved old xs from i → IsMoved old ys from j
raised old xs ys from i j next h is was = rw next (raised_by_one old xs ys from i (rw next at h) (rw next at is) was)
