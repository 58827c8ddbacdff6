use Rattle.std.proofs.Common.{◌≡◌, length}
use Rattle.merge_steps.specs.Standing as standing
use Rattle.merge_steps.proofs.possible.stands.Given as goal

-- the pair stands in none of the first ones
abbrev pub invariant-rest : goal.invariant-rest
invariant-rest l = standing.stands l.rest (record { selector = l.selector; decl = l.decl }) ≡ standing.stands l.initial.rest (record { selector = l.selector; decl = l.decl })

abbrev pub decreases-rest : goal.decreases-rest
decreases-rest l = length l.rest
