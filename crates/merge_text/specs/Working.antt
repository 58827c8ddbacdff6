-- How much work is left for the bodies of opened blocks (own).
use Rattle.std.specs.Prelude.{◌≡◌, ℕ, ◌-◌, Bool, true, Option, Some, None}

-- what is left of a bound after so many steps
abbrev pub left_of : (work : Option ℕ) → (taken : ℕ) → Option ℕ
left_of None taken = None
left_of (Some work) taken = Some (work - taken)

-- a bound that was spent stays so
abbrev pub StaysSpent : (work : Option ℕ) → (old new : Bool) → Type 0
StaysSpent work old new = (n : ℕ) → work ≡ Some n → old ≡ true → new ≡ true
