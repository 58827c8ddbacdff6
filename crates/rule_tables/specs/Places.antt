-- Where a number stands among numbers that ascend, or where it is to be put (own).
use Rattle.std.specs.Prelude.{◌≡◌, ℕ, ◌<◌, ◌≤◌, List, Result, MatchResult, length, slice_index}

abbrev pub IsPlaceAmong : List ℕ → ℕ → Result ℕ ℕ → Type 0
IsPlaceAmong numbers number result =
    MatchResult result (λ i. (i < length numbers) × (slice_index numbers i ≡ number))
    (λ i. (i ≤ length numbers) × ((k : ℕ) → k < i → slice_index numbers k < number) × ((k : ℕ) → i ≤ k → k < length numbers → number < slice_index numbers k))
