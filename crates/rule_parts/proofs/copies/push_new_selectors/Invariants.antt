use Rattle.std.proofs.Common.{◌≡◌, ◌++◌, not, length}
use Rattle.std.specs.List.{filter}
use Rattle.order_laws.specs.Members as members
use Rattle.rule_parts.proofs.copies.push_new_selectors.Given as goal

-- what was taken, and what is left to take of the rest
abbrev pub invariant-rest : goal.invariant-rest
invariant-rest l = l.kept.items ++ filter (λ s. not (members.has_selector l.others s.selector)) l.rest ≡ l.fn.into.items ++ filter (λ s. not (members.has_selector l.others s.selector)) l.initial.rest

abbrev pub decreases-rest : goal.decreases-rest
decreases-rest l = length l.rest
