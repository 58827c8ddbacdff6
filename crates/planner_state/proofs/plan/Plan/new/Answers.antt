use Rattle.std.proofs.Common.{List}
use Rattle.plan_laws.specs.Plannable.{IsPlannable}
use Rattle.planner_state.specs.State.{IsState}
use Rattle.planner_state.proofs.Results.{ok_on}
use Rattle.planner_state.proofs.Weighed.{are_weighable}
use Rattle.planner_state.proofs.plan.Plan.new.Goals as goal
use Rattle.step_laws.specs.Free.{Answered}

pub begin-requires-clause-few_items : goal.begin-requires-clause-few_items
begin-requires-clause-few_items c = c.requires.plannable.few_items

pub begin-requires-clause-weighable : goal.begin-requires-clause-weighable
begin-requires-clause-weighable c = are_weighable c.args.source.now c.args.sheet.items c.requires.plannable

pub returns-clause-state : goal.returns-clause-state
returns-clause-state c =
    ok_on c.begin.result (λ p. (answers : List Answered) → IsPlannable c.args.source.now c.args.sheet.items → IsState answers c.args.source.now p)
    (λ p. (answers : List Answered) → IsState answers c.args.source.now p)
    (λ p begins answers. begins answers c.requires.plannable) c.begin.ensures.state
