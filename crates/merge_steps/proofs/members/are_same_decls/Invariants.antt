use Rattle.std.proofs.Common.{◌≡◌, length, map, ◌↔◌}
use Rattle.merge_steps.proofs.members.are_same_decls.Given as goal

-- the first ones are the same
abbrev pub invariant-rest : goal.invariant-rest
invariant-rest l = (map (λ d. d.decl) l.rest ≡ map (λ d. d.decl) l.rest_of_others) ↔ (map (λ d. d.decl) l.initial.rest ≡ map (λ d. d.decl) l.initial.rest_of_others)

abbrev pub decreases-rest : goal.decreases-rest
decreases-rest l = length l.rest
