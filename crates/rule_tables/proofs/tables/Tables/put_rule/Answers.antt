use Rattle.std.proofs.Common.{◌∙◌, ap, refl}
use Rattle.css_model.specs.Sheets.RuleParts.{RuleParts}
use Rattle.rule_tables.specs.Tables.{TableParts}
use Rattle.rule_tables.proofs.EntrySets.{all_put, given_some, some_put, then_err, then_ok}
use Rattle.rule_tables.proofs.Standing.{rule_partly_put, rule_put}
use Rattle.rule_tables.proofs.tables.Tables.put_rule.Goals as goal

pub returns-in_err-put_selectors-clause-err : goal.returns-in_err-put_selectors-clause-err
returns-in_err-put_selectors-clause-err c =
    given_some c.from_residual.result (rule_partly_put c.args.self.now (record { selectors = c.put_selectors.new.entries; decls = c.self.inside.decls }) c.args.rule.now c.args.order_key
    c.self.inside.selectors c.self.inside.decls c.deref.result.now c.args.rule.now.decls (ap (λ (t : TableParts). t.selectors) c.self.view_is) (ap (λ (t : TableParts). t.decls) c.self.view_is) (c.deref.ensures.value ∙ ap (λ (r : RuleParts). r.selectors) c.rule.view_is) refl
    c.in_err-put_selectors.ensures.err (some_put c.self.inside.decls c.self.inside.decls _ refl))

pub returns-clause-ok : goal.returns-clause-ok
returns-clause-ok c =
    then_ok c.put_decls.result (rule_put c.args.self.now (record { selectors = c.put_selectors.new.entries; decls = c.put_decls.new.entries }) c.args.rule.now c.args.order_key
    c.self.inside.selectors c.self.inside.decls c.deref.result.now c.deref-2.result.now (ap (λ (t : TableParts). t.selectors) c.self.view_is) (ap (λ (t : TableParts). t.decls) c.self.view_is) (c.deref.ensures.value ∙ ap (λ (r : RuleParts). r.selectors) c.rule.view_is) (c.deref-2.ensures.value ∙ ap (λ (r : RuleParts). r.decls) c.rule.view_is)
    c.in_ok-put_selectors.ensures.ok) c.put_decls.ensures.ok

pub returns-clause-err : goal.returns-clause-err
returns-clause-err c =
    then_err c.put_decls.result (rule_partly_put c.args.self.now (record { selectors = c.put_selectors.new.entries; decls = c.put_decls.new.entries }) c.args.rule.now c.args.order_key
    c.self.inside.selectors c.self.inside.decls c.deref.result.now c.deref-2.result.now (ap (λ (t : TableParts). t.selectors) c.self.view_is) (ap (λ (t : TableParts). t.decls) c.self.view_is) (c.deref.ensures.value ∙ ap (λ (r : RuleParts). r.selectors) c.rule.view_is) (c.deref-2.ensures.value ∙ ap (λ (r : RuleParts). r.decls) c.rule.view_is)
    (all_put c.self.inside.selectors c.put_selectors.new.entries _ c.in_ok-put_selectors.ensures.ok)) c.put_decls.ensures.err
