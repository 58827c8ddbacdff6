use Rattle.std.proofs.Common.{ℕ, Option, None, drop, map}
use Rattle.rule_tables.proofs.Reached.{IsBest}
use Rattle.rule_tables.proofs.ahead.first_of.Given as goal
use Rattle.rule_tables.specs.Ahead.{reached}

-- the first of all is the first of those from a number on and of the best so far
abbrev pub invariant-loop-number : goal.invariant-loop-number
invariant-loop-number l = (final : Option ℕ) → IsBest l.best (drop l.number (map reached l.lists.items)) final → IsBest None (map reached l.lists.items) final
