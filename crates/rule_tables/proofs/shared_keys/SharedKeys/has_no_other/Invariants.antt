use Rattle.std.proofs.Common.{◌≡◌, ◌⊎◌, ℕ, drop}
use Rattle.rule_tables.proofs.shared_keys.SharedKeys.has_no_other.Given as goal
use Rattle.rule_tables.specs.Ahead.{IsAhead}

-- another one can only be in a list from a number on
abbrev pub invariant-loop-number : goal.invariant-loop-number
invariant-loop-number l = (k : ℕ) → IsAhead l.self k → (k ≡ l.own) ⊎ IsAhead (drop l.number l.self) k
