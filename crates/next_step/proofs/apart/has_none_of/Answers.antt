use Rattle.std.proofs.Common.{List, map, refl, ap, sym, subst, ◌∙◌}
use Rattle.std.specs.List.{Contains}
use Rattle.css_model.specs.declared.sheet.SelItem.{SelItem}
use Rattle.css_model.specs.Sheets.RuleParts.{RuleParts}
use Rattle.rule_tables.specs.Tables.{with_order_key}
use Rattle.next_step.specs.Marked.{rules_of}
use Rattle.next_step.proofs.ByOrderKeys.{is_order_keyed}
use Rattle.next_step.proofs.apart.has_none_of.Goals as goal

pub returns : goal.returns
returns c = λ known r at s in_r in_rule.
    c.has_none_of.ensures known (rules_of c.args.view.now.indexed.now) (with_order_key r c.mark-order_key.result.order_key) s c.requires.view.cover
    (is_order_keyed c.args.view.now.indexed.now c.marks-marks.ensures.as_many c.rules_are_order_keyed.ensures c.args.number r c.mark-order_key.result at c.mark-order_key.ensures)
    refl (subst (λ (ss : List SelItem). Contains (map (λ (x : SelItem). x.selector) ss) s) (sym (c.deref.ensures.value ∙ ap (λ (q : RuleParts). q.selectors) c.rule.view_is)) in_rule) in_r
