use Rattle.std.proofs.Common.{◌∙◌, ap}
use Rattle.css_model.specs.Sheets.RuleParts.{RuleParts}
use Rattle.rule_tables.specs.Tables.{TableParts, TakesRule}
use Rattle.rule_tables.proofs.Standing.{rule_taken, still_others}
use Rattle.rule_tables.proofs.tables.Tables.remove.Goals as goal

pub returns : goal.returns
returns c =
    let new : TableParts = record { selectors = c.take_selectors.new.entries; decls = c.take_decls.new.entries } in
    let taken : TakesRule c.args.self.now c.args.rule.now c.args.order_key new =
    rule_taken c.args.self.now new c.args.rule.now c.args.order_key
    c.self.inside.selectors c.self.inside.decls c.deref.result.now c.deref-2.result.now (ap (λ (t : TableParts). t.selectors) c.self.view_is) (ap (λ (t : TableParts). t.decls) c.self.view_is) (c.deref.ensures.value ∙ ap (λ (r : RuleParts). r.selectors) c.rule.view_is) (c.deref-2.ensures.value ∙ ap (λ (r : RuleParts). r.decls) c.rule.view_is)
    c.take_selectors.ensures c.take_decls.ensures in
    record { exact = taken; still = still_others c.args.self.now new c.args.rule.now c.args.order_key taken }
