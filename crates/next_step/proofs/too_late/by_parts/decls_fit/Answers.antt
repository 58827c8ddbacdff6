use Rattle.std.proofs.Common.{◌≡◌, ◌≤◌, List, Some, rules, subst}
use Rattle.std.specs.Prelude.{slice_get}
use Rattle.css_model.specs.declared.sheet.DeclItem.{DeclItem}
use Rattle.css_model.specs.declared.sheet.Item.{Item}
use Rattle.css_model.specs.declared.sheet.Item.TheVariants.{Rule}
use Rattle.css_model.specs.Sheets.Limits.{max_bytes}
use Rattle.css_model.specs.Sheets.Printed.{printed_declaration}
use Rattle.step_laws.specs.Sizes.{weight}
use Rattle.next_step.proofs.Weights.{light_decls}
use Rattle.next_step.proofs.too_late.by_parts.decls_fit.Goals as goal

pub without_decls-requires-clause-small : goal.without_decls-requires-clause-small
without_decls-requires-clause-small c =
    let at : slice_get c.args.view.now.indexed.now.items c.args.number ≡ Some (Rule c.in-Some.rule.now) =
    subst (λ (xs : List Item). slice_get xs c.args.number ≡ Some (Rule c.in-Some.rule.now)) c.items.ensures c.in-Some.ensures.some in
    let same : c.in-Some.rule.now.decls ≡ c.deref.result.now = search rules in
    subst (λ (ds : List DeclItem). weight (printed_declaration c.args.view.now.source.now) ds ≤ max_bytes) same
    (light_decls c.args.view.now.source.now c.args.view.now.indexed.now.items c.requires.plannable.sound c.args.number c.in-Some.rule.now c.requires.plannable.short at)
