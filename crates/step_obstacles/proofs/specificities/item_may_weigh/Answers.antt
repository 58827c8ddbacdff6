use Rattle.std.proofs.Common.{Some, ap, ◌∙◌}
use Rattle.css_model.specs.declared.sheet.Item.{Item}
use Rattle.css_model.specs.Sheets.RuleParts.{RuleParts}
use Rattle.step_obstacles.proofs.Askable.{all_in_profile}
use Rattle.step_obstacles.proofs.specificities.item_may_weigh.Goals as goal

pub have_one_of-requires : goal.have_one_of-requires
have_one_of-requires c =
    all_in_profile c.args.window.now.items.now c.args.number c.in-Rule.rule c.deref-in-Rule.result.now c.requires.askable (c.requires.item.item_at ∙ ap (λ (i : Item). Some i) c.in-Rule.is)
    (c.deref-in-Rule.ensures.value ∙ ap (λ (r : RuleParts). r.selectors) c.rule.view_is)
