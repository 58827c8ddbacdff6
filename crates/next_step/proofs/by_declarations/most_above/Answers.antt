use Rattle.std.proofs.Common.{◌≡◌, ◌+◌, ◌<◌, ◌≤◌, ◌^◌, ℕ, Option, Some, None, sym, subst}
use Rattle.std.specs.Prelude.{IfSome, SomeIff, slice_get}
use Rattle.css_model.specs.declared.sheet.Item.TheVariants.{Rule}
use Rattle.css_model.specs.Sheets.Printed.{printed_selector}
use Rattle.css_model.specs.Sheets.RuleParts.{RuleParts}
use Rattle.step_queue.specs.Heaviest.{AreNotHeavier}
use Rattle.step_queue.specs.RuleWeights.{WeighsAtMost}
use Rattle.step_laws.specs.Sizes.{weight}
use Rattle.next_step.specs.Late.{ByDeclsSaveAtMost}
use Rattle.next_step.proofs.DeclWeights.{all_above, own_above}
use Rattle.next_step.proofs.Telling.{there_of}
use Rattle.next_step.proofs.by_declarations.most_above.Goals as goal

pub returns-then-focus : goal.returns-then-focus
returns-then-focus c =
    own_above c.args.view.now.source.now c.args.view.now.indexed.now.items c.requires.view.plannable.sound c.heaviest-heaviest.result (subst (AreNotHeavier c.args.view.now.source.now c.args.view.now.indexed.now.items) (sym c.heaviest-heaviest.ensures) c.requires.view.weighed.all) c.args.focus.now.number (c.requires.focus.own_selectors c.if-focus.true)

pub returns : goal.returns
returns c = which c.checked_add.result c.checked_add.ensures
  where
    light : (r : RuleParts) → slice_get c.args.view.now.indexed.now.items c.args.focus.now.number ≡ Some (Rule r) → WeighsAtMost c.args.view.now.source.now r c.under-selectors.result
    light r at = subst (WeighsAtMost c.args.view.now.source.now r) (sym c.under-selectors.ensures) (c.requires.view.weighed.each c.args.focus.now.number c.mark.result.item_id r at (there_of (λ m. m.item_id) c.args.view.now.indexed.now.marks c.args.focus.now.number c.mark.result c.mark.ensures))

    which : (sum : Option ℕ) → SomeIff sum (c.heaviest-heaviest.result.decls + c.from.result < 2 ^ 64) (c.heaviest-heaviest.result.decls + c.from.result) →
        IfSome sum (λ most. (upper : ℕ) → ByDeclsSaveAtMost c.args.view.now.source.now c.args.view.now.indexed.now.items upper c.args.focus.now.number most)
    which (Some most) (fits, is) =
        all_above c.args.view.now.source.now c.args.view.now.indexed.now.items c.requires.view.plannable.sound c.heaviest-heaviest.result (subst (AreNotHeavier c.args.view.now.source.now c.args.view.now.indexed.now.items) (sym c.heaviest-heaviest.ensures) c.requires.view.weighed.all) c.args.focus.now.number c.from.result most
        (λ r at. subst (λ (n : ℕ). weight (printed_selector c.args.view.now.source.now) r.selectors ≤ n) (sym c.from.ensures) (light r at).selectors) is
    which None none = tt
