use Rattle.std.proofs.Common.{List, ap, ◌++◌, ◌∙◌}
use Rattle.hint_clauses.proofs.runs.runs_of.Goals as goal
use Rattle.remainders.specs.Remainders.{joint_step}
use Rattle.remainders.specs.declared.remainder.Remainder.{Remainder}

pub returns-clause-asked : goal.returns-clause-asked
returns-clause-asked c = record {
  left = c.in_ok-left_rests.ensures.value;
  right = c.in_ok-right_rests.ensures.value;
  left_short = c.in_ok-left_rests.ensures.short;
  right_short = c.in_ok-right_rests.ensures.short;
  step = c.in_ok-step.ensures.value ∙ ap (λ (rs : List Remainder). joint_step (rs ++ c.deref-2.result.now)) c.deref.ensures.value ∙ ap (λ (rs : List Remainder). joint_step (c.in_ok-left_rests.left_rests.items ++ rs)) c.deref-2.ensures.value;
  some = c.in_ok-step.ensures.some;
}
