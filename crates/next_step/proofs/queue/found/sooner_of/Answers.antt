use Rattle.std.proofs.Common.{Some, sym, true≢false, ◌∙◌}
use Rattle.next_step.proofs.Looking.{none_kept, reaches_itself, reaches_other, same_kept, sooner_kept}
use Rattle.next_step.proofs.queue.found.sooner_of.Goals as goal

pub returns-in_default-clause-keeps : goal.returns-in_default-clause-keeps
returns-in_default-clause-keeps c = none_kept c.args.best (Some c.args.candidate) c.in_default.is

pub returns-in_default-clause-reaches : goal.returns-in_default-clause-reaches
returns-in_default-clause-reaches c = reaches_itself c.priorities_are_ordered.ensures c.args.candidate

pub returns-then-is_sooner-clause-keeps : goal.returns-then-is_sooner-clause-keeps
returns-then-is_sooner-clause-keeps c = sooner_kept c.priorities_are_ordered.ensures c.args.best c.in-Some.other c.args.candidate c.in-Some.is (c.is_sooner.ensures.0 c.if-is_sooner.true)

pub returns-then-is_sooner-clause-reaches : goal.returns-then-is_sooner-clause-reaches
returns-then-is_sooner-clause-reaches c = reaches_itself c.priorities_are_ordered.ensures c.args.candidate

pub returns-else-is_sooner-clause-keeps : goal.returns-else-is_sooner-clause-keeps
returns-else-is_sooner-clause-keeps c = same_kept c.args.best c.in-Some.other c.in-Some.is

pub returns-else-is_sooner-clause-reaches : goal.returns-else-is_sooner-clause-reaches
returns-else-is_sooner-clause-reaches c = reaches_other c.args.candidate c.in-Some.other (λ sooner. true≢false (sym (c.is_sooner.ensures.1 sooner) ∙ c.if-is_sooner.false))
