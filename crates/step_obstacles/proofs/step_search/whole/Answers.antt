use Rattle.std.proofs.Common.{ap, ◌∙◌}
use Rattle.css_model.specs.Sheets.RuleParts.{RuleParts}
use Rattle.step_obstacles.proofs.Askable.{all_in_profile}
use Rattle.step_obstacles.proofs.step_search.whole.Goals as goal

pub specificities_of-requires : goal.specificities_of-requires
specificities_of-requires c =
    all_in_profile c.args.items.now c.args.item c.rule_at-rule.result.now c.deref-3.result.now c.requires.askable c.rule_at-rule.ensures
    (c.deref-3.ensures.value ∙ ap (λ (r : RuleParts). r.selectors) c.rule.view_is)
