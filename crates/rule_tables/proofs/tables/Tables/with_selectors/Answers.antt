use Rattle.std.proofs.Common.{◌∙◌, ap}
use Rattle.css_model.specs.Sheets.RuleParts.{RuleParts}
use Rattle.rule_tables.specs.Tables.{TableParts}
use Rattle.rule_tables.proofs.Sharing.{of_selectors, selectors_in_code}
use Rattle.rule_tables.proofs.tables.Tables.with_selectors.Goals as goal

pub returns-clause-all : goal.returns-clause-all
returns-clause-all c = λ rules x s cover among in_rule same.
    c.order_keys_of_selectors.ensures.shared.shared x.order_key (selectors_in_code c.args.self.now c.args.rule.now c.self.inside.selectors c.deref.result.now (ap (λ (t : TableParts). t.selectors) c.self.view_is)
    (c.deref.ensures.value ∙ ap (λ (r : RuleParts). r.selectors) c.rule.view_is) rules x cover among s in_rule same)

pub returns-clause-only : goal.returns-clause-only
returns-clause-only c = λ order_key h.
    of_selectors c.args.self.now c.args.rule.now c.self.inside.selectors c.deref.result.now (ap (λ (t : TableParts). t.selectors) c.self.view_is) (c.deref.ensures.value ∙ ap (λ (r : RuleParts). r.selectors) c.rule.view_is) order_key
    (c.order_keys_of_selectors.ensures.shared.only order_key h)
