-- A bound on how many answers are held (own).
use Rattle.std.specs.Prelude.{◌⊎◌, ℕ, ◌≤◌, Option, Some, None}

-- There is a bound, and as many answers are held, or more.
abbrev pub IsReached : (most : Option ℕ) → (held : ℕ) → Type 0
IsReached None held = ⊥
IsReached (Some most) held = most ≤ held

-- The answers that are held afterwards are no more than the bound, or no more than before, if there is a bound.
abbrev pub AreWithin : (most : Option ℕ) → (before after : ℕ) → Type 0
AreWithin None before after = Unit {0}
AreWithin (Some most) before after = (after ≤ most) ⊎ (after ≤ before)
