use Rattle.std.proofs.Common.{List, ap, ap₂, ◌∙◌}
use Rattle.std.specs.List.{list_any}
use Rattle.css_model.specs.declared.sheet.DeclItem.{DeclItem}
use Rattle.css_model.specs.Sheets.RuleParts.{RuleParts}
use Rattle.order_laws.specs.Members.{has_decl}
use Rattle.merge_steps.proofs.Among.{decl_common_is}
use Rattle.merge_steps.proofs.possible.have_common_decl.Goals as goal

pub returns : goal.returns
returns c =
    decl_common_is c.args.upper.now c.args.lower.now c.is_a_decl_among.result
    (c.is_a_decl_among.ensures
    ∙ ap₂ (λ (xs ys : List DeclItem). list_any (λ d. has_decl ys d.decl) xs)
    (c.deref.ensures.value ∙ ap (λ (r : RuleParts). r.decls) c.lower.view_is) (c.deref-2.ensures.value ∙ ap (λ (r : RuleParts). r.decls) c.upper.view_is))
