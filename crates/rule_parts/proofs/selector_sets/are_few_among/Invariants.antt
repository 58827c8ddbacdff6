use Rattle.std.proofs.Common.{◌≡◌, length}
use Rattle.std.specs.List.{list_all}
use Rattle.order_laws.specs.Members as members
use Rattle.rule_parts.proofs.selector_sets.are_few_among.Given as goal

-- the first ones are among the others
abbrev pub invariant-rest : goal.invariant-rest
invariant-rest l = list_all (λ s. members.has_selector l.others s.selector) l.rest ≡ list_all (λ s. members.has_selector l.others s.selector) l.initial.rest

abbrev pub decreases-rest : goal.decreases-rest
decreases-rest l = length l.rest
