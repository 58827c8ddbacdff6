-- How far a gap between siblings has to be looked at, for a list of steps and offsets: beyond every
-- offset the members of a part repeat with its step.
use Rattle.std.specs.Prelude.{ℕ, zero, suc, ◌+◌, ◌-◌, ◌*◌, ◌%◌, ◌^◌, ◌<◌, Bool, true, false, ◌||◌, ◌==◌, nat_lt, max, List, [], ◌∷◌, unsigned_abs, if◌then◌else◌}
use Rattle.std.specs.List.{list_all}
use Rattle.std.specs.Int.{◌∣◌}
use Rattle.css_model.specs.declared.position.AnB.{AnB}
use Rattle.nth_positions.specs.declared.gap.Bounds.{Bounds}

-- the first of start, start + 1, .. that passes, or start + more where none before that does
abbrev pub first_passing : (ℕ → Bool) → ℕ → ℕ → ℕ
first_passing passes start zero = start
first_passing passes start (suc more) = elim (passes start) [ true ↦ start | false ↦ first_passing passes (suc start) more ]

-- the greatest size of an offset
abbrev pub greatest_offset : List AnB → ℕ
greatest_offset [] = 0
greatest_offset (x ∷ parts) = max (unsigned_abs x.b) (greatest_offset parts)

-- that, and at least 1
abbrev pub threshold_of : List AnB → ℕ
threshold_of parts = max 1 (greatest_offset parts)

-- whether k is a multiple of the size of each step that is not 0
abbrev pub is_common_multiple : List AnB → ℕ → Bool
is_common_multiple parts k = list_all (λ x. (unsigned_abs x.a == 0) || (k % unsigned_abs x.a == 0)) parts

-- the product of the sizes of the steps that are not 0, which is a common multiple: no search goes further
abbrev pub product_of_steps : List AnB → ℕ
product_of_steps [] = 1
product_of_steps (x ∷ parts) = max 1 (unsigned_abs x.a) * product_of_steps parts

-- the least common multiple of the sizes of the steps that are not 0, and 1 where there is none
abbrev pub period_of : List AnB → ℕ
period_of parts = first_passing (is_common_multiple parts) 1 (product_of_steps parts - 1)

-- the greatest number of siblings in a row of 24 elements: 24 gaps below threshold + period, and 23 other elements
abbrev pub greatest_count : ℕ → ℕ → ℕ
greatest_count threshold period = 24 * (threshold + period - 1) + 23

-- the least number of bits that hold a number
abbrev pub width_of : ℕ → ℕ
width_of number = first_passing (λ w. nat_lt number (2 ^ w)) 0 number

-- all three
abbrev pub bounds_of : List AnB → Bounds
bounds_of parts = record { threshold = threshold_of parts; period = period_of parts; width = width_of (greatest_count (threshold_of parts) (period_of parts)) }

-- the gap itself below threshold + period, else one as far from the threshold modulo the period
abbrev pub reduced : Bounds → ℕ → ℕ
reduced x gap = if nat_lt gap (x.threshold + x.period) then gap else (x.threshold + (gap - x.threshold) % x.period)

-- m is the least common multiple of a and b, which divides each other one
abbrev pub IsLeastCommonMultiple : ℕ → ℕ → ℕ → Type 0
IsLeastCommonMultiple a b m = (0 < m) × (a ∣ m) × (b ∣ m) × ((k : ℕ) → a ∣ k → b ∣ k → m ∣ k)
