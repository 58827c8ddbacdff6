use Rattle.std.proofs.Common.{◌≡◌, length}
use Rattle.std.specs.List.{list_any}
use Rattle.order_laws.specs.Members as members
use Rattle.merge_steps.proofs.members.is_a_decl_among.Given as goal

-- none of the first ones is among the others
abbrev pub invariant-rest : goal.invariant-rest
invariant-rest l = list_any (λ d. members.has_decl l.others d.decl) l.rest ≡ list_any (λ d. members.has_decl l.others d.decl) l.initial.rest

abbrev pub decreases-rest : goal.decreases-rest
decreases-rest l = length l.rest
