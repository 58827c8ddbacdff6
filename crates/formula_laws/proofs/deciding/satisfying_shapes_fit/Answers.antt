use Rattle.formula_laws.proofs.Whole.Filling.{formula_sound}
use Rattle.formula_laws.proofs.Whole.Refusals.{allowed_means}
use Rattle.formula_laws.proofs.deciding.satisfying_shapes_fit.Goals as goal
use Rattle.formula_laws.specs.Allowed.{allowed_by}
use Rattle.formula_laws.specs.Formula.{digits_for}

pub returns : goal.returns
returns c = λ width suits x y ready values h. c.solved_shapes_fit.ensures x y _ _ _ _ _ _ _
    (formula_sound (digits_for width x y) x y (allowed_by suits x y) ready.left_length ready.right_length ready.steps (allowed_means suits x y ready.decided) values h)
