use Rattle.std.proofs.Common.{◌≡◌, length}
use Rattle.order_laws.specs.Members as members
use Rattle.rule_parts.proofs.members.has_decl.Given as goal

-- it is not among the first ones
abbrev pub invariant-rest : goal.invariant-rest
invariant-rest l = members.has_decl l.rest l.decl ≡ members.has_decl l.initial.rest l.decl

abbrev pub decreases-rest : goal.decreases-rest
decreases-rest l = length l.rest
