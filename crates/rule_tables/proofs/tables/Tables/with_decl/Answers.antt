use Rattle.std.proofs.Common.{◌≡◌, ◌∙◌, ap, inr, List, subst, sym}
use Rattle.std.proofs.lemmas.Result.{IfOk-weaker}
use Rattle.css_model.specs.declared.sheet.DeclItem.{DeclItem}
use Rattle.css_model.specs.Sheets.RuleParts.{RuleParts}
use Rattle.order_laws.specs.Members.{has_decl}
use Rattle.rule_tables.proofs.ListsUnder.{are_entered}
use Rattle.rule_tables.proofs.Sharing.{decl_in_code, of_decls}
use Rattle.rule_tables.proofs.tables.Tables.with_decl.Goals as goal
use Rattle.rule_tables.specs.Ahead.{Reaches, total_at}
use Rattle.rule_tables.specs.declared.entries.Entry.{Entry}
use Rattle.rule_tables.specs.Tables.{AreEntered, AreListsUnder, TableParts, count_of, weight_of}

pub returns-clause-all : goal.returns-clause-all
returns-clause-all c =
    IfOk-weaker c.order_keys_of_decls.result (λ l. AreListsUnder c.self.inside.decls c.deref.result.now c.args.weights.now l) _
    (λ l lists rules x d cover among in_rule in_other. (lists.under x.order_key).1 (decl_in_code c.args.self.now c.args.rule.now c.self.inside.decls c.deref.result.now (ap (λ (t : TableParts). t.decls) c.self.view_is)
    (c.deref.ensures.value ∙ ap (λ (r : RuleParts). r.decls) c.rule.view_is) rules x cover among d in_rule in_other)) c.order_keys_of_decls.ensures

pub returns-clause-only : goal.returns-clause-only
returns-clause-only c =
    IfOk-weaker c.order_keys_of_decls.result (λ l. AreListsUnder c.self.inside.decls c.deref.result.now c.args.weights.now l) _
    (λ l lists order_key h. of_decls c.args.self.now c.args.rule.now c.self.inside.decls c.deref.result.now (ap (λ (t : TableParts). t.decls) c.self.view_is)
    (c.deref.ensures.value ∙ ap (λ (r : RuleParts). r.decls) c.rule.view_is) order_key (inr ((lists.under order_key).0 h))) c.order_keys_of_decls.ensures

pub returns-clause-count : goal.returns-clause-count
returns-clause-count c =
    let is_ds : c.deref.result.now ≡ c.args.rule.now.decls = c.deref.ensures.value ∙ ap (λ (r : RuleParts). r.decls) c.rule.view_is in
    IfOk-weaker c.order_keys_of_decls.result (λ l. AreListsUnder c.self.inside.decls c.deref.result.now c.args.weights.now l) _
    (λ l lists rules x cover among. subst (λ (ds : List DeclItem). Reaches (total_at (λ c. c.count) l x.order_key) (count_of (has_decl x.rule.decls) ds)) is_ds
    (lists.count x.order_key (has_decl x.rule.decls)
    (subst (λ (es : List Entry). AreEntered es x.order_key (has_decl x.rule.decls)) (sym (ap (λ (t : TableParts). t.decls) c.self.view_is)) (are_entered c.args.self.now rules x cover among)))) c.order_keys_of_decls.ensures

pub returns-clause-weight : goal.returns-clause-weight
returns-clause-weight c =
    let is_ds : c.deref.result.now ≡ c.args.rule.now.decls = c.deref.ensures.value ∙ ap (λ (r : RuleParts). r.decls) c.rule.view_is in
    IfOk-weaker c.order_keys_of_decls.result (λ l. AreListsUnder c.self.inside.decls c.deref.result.now c.args.weights.now l) _
    (λ l lists rules x cover among. subst (λ (ds : List DeclItem). Reaches (total_at (λ c. c.weight) l x.order_key) (weight_of (has_decl x.rule.decls) ds c.args.weights.now)) is_ds
    (lists.weight x.order_key (has_decl x.rule.decls)
    (subst (λ (es : List Entry). AreEntered es x.order_key (has_decl x.rule.decls)) (sym (ap (λ (t : TableParts). t.decls) c.self.view_is)) (are_entered c.args.self.now rules x cover among)))) c.order_keys_of_decls.ensures
