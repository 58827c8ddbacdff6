use Rattle.std.proofs.lemmas.Result.{IfOk-weaker}
use Rattle.next_step.proofs.NamedSteps.{names_none, tested_none}
use Rattle.rule_tables.proofs.ForCallers.{none_then}
use Rattle.next_step.proofs.queue.naming.step_of_candidate.Goals as goal

pub returns-in_default-clause-none : goal.returns-in_default-clause-none
returns-in_default-clause-none c = names_none c.parts_are_few.ensures c.args.source.now c.args.indexed.now c.args.candidate.now c.requires.plannable (rw c.in_default.is at c.named_step.ensures.none)

pub returns-clause-none : goal.returns-clause-none
returns-clause-none c =
    IfOk-weaker c.tested.result _ _ (λ found. none_then found (tested_none c.parts_are_few.ensures c.args.source.now c.args.indexed.now c.args.candidate.now c.requires.plannable c.in-Some.step c.in-Some.ensures.one)) c.tested.ensures.none
