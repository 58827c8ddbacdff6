use Rattle.std.proofs.Common.{◌≡◌, length}
use Rattle.std.specs.List.{list_all, list_any}
use Rattle.order_laws.specs.Members as members
use Rattle.rule_parts.proofs.selector_sets.are_in.Given as goal

-- the first ones are in the set
abbrev pub invariant-rest : goal.invariant-rest
invariant-rest l = list_all (λ s. list_any (members.same_selector s.selector) l.set.keys) l.rest ≡ list_all (λ s. list_any (members.same_selector s.selector) l.set.keys) l.initial.rest

abbrev pub decreases-rest : goal.decreases-rest
decreases-rest l = length l.rest
