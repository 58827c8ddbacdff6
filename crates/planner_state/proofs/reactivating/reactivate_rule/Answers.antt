use Rattle.std.proofs.Common.{subst}
use Rattle.css_model.specs.Sheets.RuleParts.{RuleParts}
use Rattle.planner_state.specs.Reactivating as spec
use Rattle.planner_state.proofs.Moving.{same_rule}
use Rattle.planner_state.proofs.reactivating.reactivate_rule.Goals as goal

pub returns-clause-active : goal.returns-clause-active
returns-clause-active c = λ r at. subst (λ (q : RuleParts). spec.IsRuleActive c.args.watched.now c.reactivate_pairs_of.new.queue q)
    (same_rule c.args.items.now c.args.number c.in-Some.rule.now r c.in-Some.ensures.some at) c.in_ok-reactivate_pairs_of.ensures.active
