use Rattle.std.proofs.Common.{◌∷◌, List, ap₂}
use Rattle.css_model.specs.declared.sheet.Item.{Item}
use Rattle.css_model.specs.declared.sheet.Item.TheVariants.{Rule}
use Rattle.css_model.specs.Sheets.RuleParts.{RuleParts}
use Rattle.step_obstacles.proofs.LeftParts.{lower_left}
use Rattle.step_obstacles.proofs.left_parts.below_share.Goals as goal
use Rattle.window_order.specs.Left.{rule_of}

pub returns : goal.returns
returns c = ap₂ (λ (made : RuleParts) (rest : List Item). Rule made ∷ rest) c.shared.ensures (lower_left c.args.upper.now c.args.lower.now (rule_of c.without_others.result) c.without_others.ensures)
