use Rattle.std.proofs.Common.{◌≡◌, ◌++◌, length}
use Rattle.step_laws.specs.RuleParting.{each_last}
use Rattle.rule_parts.proofs.copies.each_last.Given as goal

-- what was taken, and what is left to take of the rest
abbrev pub invariant-rest : goal.invariant-rest
invariant-rest l = l.last.items ++ each_last l.rest ≡ each_last l.initial.rest

abbrev pub decreases-rest : goal.decreases-rest
decreases-rest l = length l.rest
