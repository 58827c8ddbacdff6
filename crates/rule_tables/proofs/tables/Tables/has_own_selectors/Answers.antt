use Rattle.std.proofs.Common.{◌∙◌, ap}
use Rattle.css_model.specs.Sheets.RuleParts.{RuleParts}
use Rattle.rule_tables.specs.Tables.{TableParts}
use Rattle.rule_tables.proofs.Sharing.{selector_in_code}
use Rattle.rule_tables.proofs.tables.Tables.has_own_selectors.Goals as goal

pub returns : goal.returns
returns c = λ all rules x s cover among apart in_rule in_other.
    apart (c.have_no_others.ensures all x.order_key
    (selector_in_code c.args.self.now c.args.rule.now c.self.inside.selectors c.deref.result.now (ap (λ (t : TableParts). t.selectors) c.self.view_is)
    (c.deref.ensures.value ∙ ap (λ (r : RuleParts). r.selectors) c.rule.view_is) rules x cover among s in_rule in_other))
