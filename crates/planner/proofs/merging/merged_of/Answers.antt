use Rattle.std.proofs.Common.{ap, ◌∙◌}
use Rattle.planner.proofs.merging.merged_of.Goals as goal
use Rattle.planner_state.specs.PlanParts.{PlanParts}

pub returns-clause-items : goal.returns-clause-items
returns-clause-items c = c.into_sheet-sheet.ensures ∙ ap (λ (p : PlanParts). p.indexed.items) c.plan.view_is
