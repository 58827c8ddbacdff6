use Rattle.formula_laws.proofs.Whole.Decided.{from_formula}
use Rattle.formula_laws.proofs.deciding.formula_is_sound.Goals as goal

pub returns : goal.returns
returns c = λ width suits x y ready. from_formula c.solved_has_a_shape.ensures width suits x y ready.left_length ready.right_length ready.steps ready.decided
