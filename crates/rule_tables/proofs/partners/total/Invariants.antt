use Rattle.std.proofs.Common.{ℕ, ◌+◌, length}
use Rattle.rule_tables.proofs.partners.total.Given as goal
use Rattle.rule_tables.specs.Ahead.{Reaches}
use Rattle.rule_tables.specs.Tables.{sum_of}

-- with those of the rest it is the sum of all
abbrev pub invariant-rest : goal.invariant-rest
invariant-rest l = (final : ℕ) → Reaches final (l.total + sum_of l.rest) → Reaches final (sum_of l.weights)

abbrev pub decreases-rest : goal.decreases-rest
decreases-rest l = length l.rest
