-- Budgets of learned clauses.
use Rattle.std.specs.Prelude.{◌≡◌, ◌≤◌, ◌⊎◌, ℕ}

-- the budget that stands for a number above the length of every list
abbrev pub no_limit : ℕ
no_limit = 4294967295

-- so many clauses are within the budget
abbrev pub IsWithin : ℕ → ℕ → Type 0
IsWithin budget count = (budget ≡ no_limit) ⊎ (count ≤ budget)
