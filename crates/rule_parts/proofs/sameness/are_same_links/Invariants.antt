use Rattle.std.proofs.Common.{◌≡◌, length, ◌↔◌}
use Rattle.rule_parts.proofs.sameness.are_same_links.Given as goal

-- the first ones are the same
abbrev pub invariant-rest : goal.invariant-rest
invariant-rest l = (l.rest ≡ l.rest_of_other) ↔ (l.initial.rest ≡ l.initial.rest_of_other)

abbrev pub decreases-rest : goal.decreases-rest
decreases-rest l = length l.rest
