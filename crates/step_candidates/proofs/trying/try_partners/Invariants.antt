use Rattle.std.proofs.Common.{length}
use Rattle.step_candidates.proofs.AddedSteps.{Walked}
use Rattle.step_candidates.proofs.trying.try_partners.Given as goal

-- the steps with those before were tried
abbrev pub invariant-rest : goal.invariant-rest
invariant-rest l = Walked l.on.lengths.now l.on.sheet.now.items l.number l.initial.rest l.rest l.fn.found l.found

abbrev pub decreases-rest : goal.decreases-rest
decreases-rest l = length l.rest
