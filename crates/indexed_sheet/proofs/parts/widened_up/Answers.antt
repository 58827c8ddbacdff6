use Rattle.std.proofs.Common.{sym, subst}
use Rattle.css_model.specs.Sheets.RuleParts.{RuleParts}
use Rattle.indexed_sheet.specs.Putting.{HaveNoneInCommon}
use Rattle.indexed_sheet.proofs.parts.widened_up.Goals as goal

pub all_selectors-requires : goal.all_selectors-requires
all_selectors-requires c = λ known.
    subst (λ (lower : RuleParts). HaveNoneInCommon c.upper.inside.selectors.items lower.selectors) (sym c.lower.view_is)
    (subst (λ (upper : RuleParts). HaveNoneInCommon upper.selectors c.args.lower.selectors) (sym c.upper.view_is) (c.requires known))
