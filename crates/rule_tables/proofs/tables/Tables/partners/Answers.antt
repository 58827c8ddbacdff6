use Rattle.std.proofs.Common.{◌∙◌, ap}
use Rattle.std.proofs.lemmas.Result.{IfOk-weaker}
use Rattle.css_model.specs.Sheets.RuleParts.{RuleParts}
use Rattle.rule_tables.specs.Entries.{HaveSameMembers}
use Rattle.rule_tables.specs.Tables.{TableParts}
use Rattle.rule_tables.proofs.Sharing.{all_listed, only_listed}
use Rattle.rule_tables.proofs.tables.Tables.partners.Goals as goal

pub returns-clause-all : goal.returns-clause-all
returns-clause-all c =
    IfOk-weaker c.in_order.result (λ list. HaveSameMembers list.items c.put_under_decls.new.found.items) _
    (λ list same. all_listed c.args.self.now c.args.rule.now c.self.inside.selectors c.self.inside.decls c.deref.result.now c.deref-2.result.now (ap (λ (t : TableParts). t.selectors) c.self.view_is) (ap (λ (t : TableParts). t.decls) c.self.view_is) (c.deref.ensures.value ∙ ap (λ (r : RuleParts). r.selectors) c.rule.view_is) (c.deref-2.ensures.value ∙ ap (λ (r : RuleParts). r.decls) c.rule.view_is)
    c.new-found.result.items c.put_shared.new.found.items c.put_under_decls.new.found.items list.items same c.in_ok-put_shared.ensures c.in_ok-put_under_decls.ensures) c.in_order.ensures.same

pub returns-clause-only : goal.returns-clause-only
returns-clause-only c =
    IfOk-weaker c.in_order.result (λ list. HaveSameMembers list.items c.put_under_decls.new.found.items) _
    (λ list same. only_listed c.args.self.now c.args.rule.now c.self.inside.selectors c.self.inside.decls c.deref.result.now c.deref-2.result.now (ap (λ (t : TableParts). t.selectors) c.self.view_is) (ap (λ (t : TableParts). t.decls) c.self.view_is) (c.deref.ensures.value ∙ ap (λ (r : RuleParts). r.selectors) c.rule.view_is) (c.deref-2.ensures.value ∙ ap (λ (r : RuleParts). r.decls) c.rule.view_is)
    c.new-found.result.items c.put_shared.new.found.items c.put_under_decls.new.found.items list.items same c.new-found.ensures.items c.in_ok-put_shared.ensures c.in_ok-put_under_decls.ensures) c.in_order.ensures.same
