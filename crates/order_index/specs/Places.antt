-- The items that are so far from what a step moves (own).
use Rattle.std.specs.Prelude.{◌≡◌, ◌⊎◌, ◌+◌, ◌<◌, ℕ, List, Option, Some, None, slice_get}
use Rattle.order_laws.specs.Reversed.{distance}

-- the number that is so much less, if there is one
abbrev pub IsLess : ℕ → ℕ → Option ℕ → Type 0
IsLess far number None = number < far
IsLess far number (Some n) = n + far ≡ number

-- the number that is so much more, if there is a distance
abbrev pub IsMore : ℕ → ℕ → Option ℕ → Type 0
IsMore far number None = far ≡ 0
IsMore far number (Some n) = (n ≡ number + far) × (0 < far)

-- of two places that are numbers the first is less
abbrev pub IsAbove : Option ℕ → Option ℕ → Type 0
IsAbove None y = Unit {0}
IsAbove (Some m) None = Unit {0}
IsAbove (Some m) (Some n) = m < n

-- four places: the numbers that are so far from one of two, ascending
pub record ArePlaces (far upper lower : ℕ) (places : List (Option ℕ)) : Type 0 where
  pub all : (n : ℕ) → (distance n upper ≡ far) ⊎ (distance n lower ≡ far) → (i : ℕ) × (i < 4) × (slice_get places i ≡ Some (Some n))
  pub ascend : (i j m n : ℕ) → i < j → slice_get places i ≡ Some (Some m) → slice_get places j ≡ Some (Some n) → m < n
