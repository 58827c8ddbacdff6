use Rattle.std.proofs.Common.{◌≡◌, length}
use Rattle.std.specs.List.{list_all}
use Rattle.merge_steps.specs.Standing as standing
use Rattle.merge_steps.proofs.possible.all_stand_with_decl.Given as goal

-- the first ones stand there
abbrev pub invariant-rest : goal.invariant-rest
invariant-rest l = list_all (λ s. standing.stands_beside l.above l.below (record { selector = s.selector; decl = l.decl })) l.rest ≡ list_all (λ s. standing.stands_beside l.above l.below (record { selector = s.selector; decl = l.decl })) l.initial.rest

abbrev pub decreases-rest : goal.decreases-rest
decreases-rest l = length l.rest
