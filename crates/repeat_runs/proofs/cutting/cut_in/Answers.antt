use Rattle.std.proofs.Common.{◌≡◌, List, Some, set, sym, ap, subst, ◌∙◌}
use Rattle.std.specs.Prelude.{slice_get}
use Rattle.std.proofs.lemmas.List.{set-set}
use Rattle.cascade_laws.proofs.ForCallers.{rule-same, some-same}
use Rattle.css_model.specs.declared.sheet.Item.{Item}
use Rattle.css_model.specs.declared.sheet.Item.TheVariants as item
use Rattle.css_model.specs.Sheets.RuleParts.{RuleParts}
use Rattle.css_model.specs.Sheets.SheetParts.{SheetParts}
use Rattle.repeat_runs.proofs.cutting.cut_in.Goals as goal
use Rattle.repeat_runs.specs.Running.{left_of}

pub returns : goal.returns
returns c r at =
    let items : c.sheet.inside.items.items ≡ c.args.sheet.items = ap (λ (s : SheetParts). s.items) c.sheet.view_is in
    let empty : Item = item.KeptBlock (record { start = 0; «end» = 0 }) in
    let lifted : c.lift_rule-rule.new.items.items ≡ set c.args.sheet.items c.args.number empty = c.lift_rule-rule.ensures.items ∙ ap (λ (xs : List Item). set xs c.args.number empty) items in
    let there : slice_get c.args.sheet.items c.args.number ≡ Some (item.Rule c.lift_rule-rule.result) =
    subst (λ (xs : List Item). slice_get xs c.args.number ≡ Some (item.Rule c.lift_rule-rule.result)) items c.lift_rule-rule.ensures.rule in
    let rule : c.lift_rule-rule.result ≡ r = rule-same (some-same (sym there ∙ at)) in
    ap (λ (xs : List Item). set xs c.args.number (item.Rule c.in_ok-cut.field-0)) lifted
    ∙ set-set c.args.sheet.items c.args.number empty (item.Rule c.in_ok-cut.field-0)
    ∙ ap (λ (q : RuleParts). set c.args.sheet.items c.args.number (item.Rule q)) (c.in_ok-cut.ensures ∙ ap (left_of c.args.gone.now.decls.items c.args.gone.now.selectors.items) rule)
