use Rattle.std.proofs.Common.{◌≡◌, length}
use Rattle.std.specs.List.{list_all}
use Rattle.order_laws.specs.Members as members
use Rattle.rule_parts.proofs.members.are_decls_among.Given as goal

-- the first ones are among the others
abbrev pub invariant-rest : goal.invariant-rest
invariant-rest l = list_all (λ d. members.has_decl l.others d.decl) l.rest ≡ list_all (λ d. members.has_decl l.others d.decl) l.initial.rest

abbrev pub decreases-rest : goal.decreases-rest
decreases-rest l = length l.rest
