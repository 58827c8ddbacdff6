use Rattle.formula_laws.proofs.Whole.Decided.{to_formula}
use Rattle.formula_laws.proofs.deciding.formula_is_complete.Goals as goal

pub returns : goal.returns
returns c = λ width suits x y ready shape valid small. to_formula c.shapes_are_solved.ensures width suits x y ready.left_length ready.right_length ready.steps ready.decided shape valid small.0 small.1
