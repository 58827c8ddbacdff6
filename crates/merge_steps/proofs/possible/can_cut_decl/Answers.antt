use Rattle.std.proofs.Common.{◌≡◌, List, Some, ap, subst, ◌∙◌}
use Rattle.std.specs.Prelude.{slice_get}
use Rattle.css_model.specs.declared.sheet.DeclItem.{DeclItem}
use Rattle.css_model.specs.Sheets.RuleParts.{RuleParts}
use Rattle.merge_steps.proofs.Cuts.{got, decl_cut_answered}
use Rattle.merge_steps.proofs.possible.can_cut_decl.Goals as goal

pub returns-in-Some : goal.returns-in-Some
returns-in-Some c =
    decl_cut_answered c.args.items.now c.args.number c.args.decl c.args.rule.now c.in-Some.cut.now c.requires
    (subst (λ (xs : List DeclItem). slice_get xs c.args.decl ≡ Some c.in-Some.cut.now) (c.deref.ensures.value ∙ ap (λ (r : RuleParts). r.decls) c.rule.view_is) (got c.deref.result.now c.args.decl c.in-Some.cut.now c.in-Some.ensures.lookup.3.0 c.in-Some.ensures.lookup.3.1))
    c.is_decl_elsewhere.result c.is_decl_elsewhere.ensures
