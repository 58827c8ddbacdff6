use Rattle.std.proofs.Common.{◌≡◌, ◌≤◌, List, Some, rules, subst}
use Rattle.std.specs.Prelude.{slice_get}
use Rattle.css_model.specs.declared.sheet.Item.{Item}
use Rattle.css_model.specs.declared.sheet.Item.TheVariants.{Rule}
use Rattle.css_model.specs.declared.sheet.SelItem.{SelItem}
use Rattle.css_model.specs.Sheets.Limits.{max_bytes}
use Rattle.css_model.specs.Sheets.Printed.{printed_selector}
use Rattle.step_laws.specs.Sizes.{weight}
use Rattle.next_step.proofs.Weights.{light_selectors}
use Rattle.next_step.proofs.too_late.by_parts.left_of_selectors.Goals as goal

pub without_selectors-requires-clause-small : goal.without_selectors-requires-clause-small
without_selectors-requires-clause-small c =
    let at : slice_get c.args.view.now.indexed.now.items c.args.number ≡ Some (Rule c.in_ok-rule.rule.now) =
    subst (λ (xs : List Item). slice_get xs c.args.number ≡ Some (Rule c.in_ok-rule.rule.now)) c.items.ensures c.in_ok-rule.ensures.some in
    let same : c.in_ok-rule.rule.now.selectors ≡ c.deref.result.now = search rules in
    subst (λ (ss : List SelItem). weight (printed_selector c.args.view.now.source.now) ss ≤ max_bytes) same
    (light_selectors c.args.view.now.source.now c.args.view.now.indexed.now.items c.requires.plannable.sound c.args.number c.in_ok-rule.rule.now c.requires.plannable.short at)
