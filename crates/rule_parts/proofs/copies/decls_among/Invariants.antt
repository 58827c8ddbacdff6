use Rattle.std.proofs.Common.{◌≡◌, ◌++◌, length}
use Rattle.std.specs.List.{filter}
use Rattle.order_laws.specs.Members as members
use Rattle.rule_parts.proofs.copies.decls_among.Given as goal

-- what was taken, and what is left to take of the rest
abbrev pub invariant-rest : goal.invariant-rest
invariant-rest l = l.kept.items ++ filter (λ d. members.has_decl l.others d.decl) l.rest ≡ filter (λ d. members.has_decl l.others d.decl) l.initial.rest

abbrev pub decreases-rest : goal.decreases-rest
decreases-rest l = length l.rest
