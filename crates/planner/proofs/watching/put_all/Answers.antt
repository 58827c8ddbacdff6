use Rattle.std.proofs.Common.{List, sym, ap, ◌∙◌, subst}
use Rattle.css_model.specs.declared.sheet.Item.{Item}
use Rattle.planner.proofs.Results.{on_ok}
use Rattle.planner.proofs.watching.put_all.Goals as goal
use Rattle.obstacles.specs.Blocking.{Names}
use Rattle.planner_state.specs.PlanParts.{PlanParts}

pub returns-clause-put : goal.returns-clause-put
returns-clause-put c = on_ok c.put_named.result _ _
    (λ put by names p pair. (
      c.candidate_of_moves.result,
      c.candidate_of_moves.ensures,
      put by (subst (λ (items : List Item). Names items c.args.obstacle.now by) (sym (c.items.ensures ∙ ap (λ (p : PlanParts). p.indexed.items) c.plan.view_is)) names) p pair,
    )) c.put_named.ensures.put
