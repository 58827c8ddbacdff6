use Rattle.std.proofs.Common.{◌≡◌, List, Some, ap, subst, ◌∙◌}
use Rattle.std.specs.Prelude.{slice_get}
use Rattle.css_model.specs.declared.sheet.SelItem.{SelItem}
use Rattle.css_model.specs.Sheets.RuleParts.{RuleParts}
use Rattle.merge_steps.proofs.Cuts.{got, selector_cut_answered}
use Rattle.merge_steps.proofs.possible.can_cut_selector.Goals as goal

pub returns-in-Some : goal.returns-in-Some
returns-in-Some c =
    selector_cut_answered c.args.items.now c.args.number c.args.sel c.args.rule.now c.in-Some.cut.now c.requires
    (subst (λ (xs : List SelItem). slice_get xs c.args.sel ≡ Some c.in-Some.cut.now) (c.deref.ensures.value ∙ ap (λ (r : RuleParts). r.selectors) c.rule.view_is) (got c.deref.result.now c.args.sel c.in-Some.cut.now c.in-Some.ensures.lookup.3.0 c.in-Some.ensures.lookup.3.1))
    c.is_selector_elsewhere.result c.is_selector_elsewhere.ensures
