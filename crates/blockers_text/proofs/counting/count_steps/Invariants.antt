use Rattle.std.proofs.Common.{length}
use Rattle.std.specs.List.{AllByRecursion}
use Rattle.blockers_text.proofs.counting.count_steps.Given as goal
use Rattle.blockers_text.proofs.Planning.{CountedSo}
use Rattle.blockers_text.specs.Later.{Grows}
use Rattle.step_candidates.specs.Saving.{IsSavingStep}

-- the steps so far are counted
abbrev pub invariant-steps : goal.invariant-steps
invariant-steps l = record {
  grows : Grows l.fn.pairs l.pairs;
  saving : AllByRecursion (λ b. IsSavingStep l.source l.sheet.items b.0) l.rest;
  counts : CountedSo l.source l.sheet.items l.pairs l.blocked l.rest l.fn.steps.items l.steps.items l.tallies.items;
}

abbrev pub decreases-steps : goal.decreases-steps
decreases-steps l = length l.rest
