use Rattle.std.proofs.Common.{◌≡◌, true, List, sym, subst}
use Rattle.css_model.specs.Cascade.Order.{Pair}
use Rattle.css_model.specs.declared.sheet.Item.{Item}
use Rattle.order_laws.specs.Edits.{Edit, is_moved}
use Rattle.planner_state.specs.PlanParts.{PlanParts}
use Rattle.planner_state.specs.Reactivating.{IsActive}
use Rattle.planner_state.proofs.Results.{on_fine}
use Rattle.planner_state.proofs.plan.Plan.prepare.Goals as goal
use Rattle.step_laws.specs.Steps.{IsStep}

pub returns-clause-active : goal.returns-clause-active
returns-clause-active c = on_fine c.reindex.result (subst
    (λ (p : PlanParts). (e : Edit) → IsStep p.indexed.items c.args.step.now e → (q : Pair) → is_moved e.moved q ≡ true → IsActive p.entries c.reactivate_moved.new.queue q.selector q.decl) c.self.view_is
    (λ e is. c.in_ok-reactivate_moved.ensures.active e (subst (λ (xs : List Item). IsStep xs c.args.step.now e) (sym c.items.ensures) is)))
