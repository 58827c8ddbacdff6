use Rattle.step_candidates.specs.Walking.{Adds}
use Rattle.step_candidates.proofs.AddedSteps.{IsUpTo}
use Rattle.step_candidates.proofs.trying.try_rules.Given as goal

-- the steps of the rules so far were tried
abbrev pub invariant-loop-number : goal.invariant-loop-number
invariant-loop-number l = Adds l.on.lengths.now l.on.sheet.now.items (IsUpTo l.on.lengths.now l.on.sheet.now.items l.number) l.fn.found l.found
