use Rattle.std.proofs.Common.{List, ap, ap₂, ◌∙◌}
use Rattle.std.specs.List.{list_all}
use Rattle.css_model.specs.declared.sheet.DeclItem.{DeclItem}
use Rattle.css_model.specs.Sheets.RuleParts.{RuleParts}
use Rattle.order_laws.specs.Members.{has_decl}
use Rattle.merge_steps.proofs.Among.{decls_among_is}
use Rattle.merge_steps.proofs.possible.are_decls_of.Goals as goal

pub returns : goal.returns
returns c =
    decls_among_is c.args.rule.now c.args.other.now c.are_decls_among.result
    (c.are_decls_among.ensures
    ∙ ap₂ (λ (xs ys : List DeclItem). list_all (λ d. has_decl ys d.decl) xs)
    (c.deref.ensures.value ∙ ap (λ (r : RuleParts). r.decls) c.rule.view_is) (c.deref-2.ensures.value ∙ ap (λ (r : RuleParts). r.decls) c.other.view_is))
