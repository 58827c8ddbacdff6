use Rattle.std.proofs.Common.{sym, ◌∙◌}
use Rattle.shape_laws.proofs.Shaping.Shapes.{shape_exists}
use Rattle.shape_laws.proofs.matching.selectors_that_meet_have_a_shape.Goals as goal

pub returns : goal.returns
returns c = λ doc target x y legal left right. shape_exists doc target.path x y legal left.element right.element (sym left.pseudo ∙ right.pseudo)
