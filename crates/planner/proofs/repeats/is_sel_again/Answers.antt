use Rattle.std.proofs.Common.{◌≡◌, true, List, sym, subst, ◌∙◌}
use Rattle.css_model.specs.declared.sheet.SelItem.{SelItem}
use Rattle.planner.proofs.repeats.is_sel_again.Goals as goal
use Rattle.order_laws.specs.Members.{has_selector}
use Rattle.repeat_laws.proofs.ForCallers.{sel_after, sel_before}

pub returns-then-has_selector : goal.returns-then-has_selector
returns-then-has_selector c = λ _. sel_after c.args.selectors.now c.args.number c.in-Some.one.now c.in-Some.later.now (sym c.split_at.ensures.back ∙ c.in-Some.ensures.cases.0) (sym c.has_selector.ensures ∙ c.if-has_selector.true)

pub returns-else-has_selector : goal.returns-else-has_selector
returns-else-has_selector c = λ has. sel_before c.args.selectors.now c.args.number c.in-Some.one.now c.in-Some.later.now (sym c.split_at.ensures.back ∙ c.in-Some.ensures.cases.0)
    (subst (λ (xs : List SelItem). has_selector xs c.in-Some.one.now.selector ≡ true) c.split_at.ensures.front (sym c.has_selector-in-Some.ensures ∙ has))
