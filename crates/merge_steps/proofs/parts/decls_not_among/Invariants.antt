use Rattle.std.proofs.Common.{◌≡◌, ◌++◌, not, length}
use Rattle.std.specs.List.{filter}
use Rattle.order_laws.specs.Members as members
use Rattle.merge_steps.proofs.parts.decls_not_among.Given as goal

-- what was taken, and what is left to take of the rest
abbrev pub invariant-rest : goal.invariant-rest
invariant-rest l = l.kept.items ++ filter (λ d. not (members.has_decl l.others d.decl)) l.rest ≡ filter (λ d. not (members.has_decl l.others d.decl)) l.initial.rest

abbrev pub decreases-rest : goal.decreases-rest
decreases-rest l = length l.rest
