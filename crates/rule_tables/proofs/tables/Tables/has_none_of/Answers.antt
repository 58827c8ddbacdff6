use Rattle.std.proofs.Common.{ℕ, [], ap, refl, subst}
use Rattle.css_model.specs.Sheets.RuleParts.{RuleParts}
use Rattle.rule_tables.proofs.Sharing.{selector_in_code}
use Rattle.rule_tables.proofs.tables.Tables.has_none_of.Goals as goal
use Rattle.rule_tables.specs.Tables.{IsUnderOne, TableParts, selector_digests}

pub returns : goal.returns
returns c = λ yes rules x s cover among same in_list in_rule.
    let r : RuleParts = record { selectors = c.args.selectors.now; decls = [] } in
    c.is_under_none.ensures yes
    (subst (λ (k : ℕ). IsUnderOne c.self.inside.selectors (selector_digests c.args.selectors.now) k) same
    (selector_in_code c.args.self.now r c.self.inside.selectors c.args.selectors.now (ap (λ (t : TableParts). t.selectors) c.self.view_is) refl rules x cover among s in_list in_rule))
