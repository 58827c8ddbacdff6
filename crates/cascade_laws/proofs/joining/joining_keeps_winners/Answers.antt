use Rattle.std.proofs.Common.{◌++◌, ◌∷◌}
use Rattle.cascade_laws.proofs.ApplyingAlike.{joining_anywhere}
use Rattle.cascade_laws.proofs.InOrder.{alike_wins}
use Rattle.cascade_laws.proofs.joining.joining_keeps_winners.Goals as goal
use Rattle.css_model.specs.declared.sheet.Item.TheVariants.{Rule}
use Rattle.css_model.specs.Sheets.StyleRule.{joined}

pub returns : goal.returns
returns c = λ before after upper lower same.
    alike_wins (before ++ Rule upper ∷ Rule lower ∷ after) (before ++ Rule (joined upper lower) ∷ after) (joining_anywhere before after upper lower same)
