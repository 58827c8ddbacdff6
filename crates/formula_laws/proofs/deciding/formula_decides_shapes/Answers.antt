use Rattle.formula_laws.proofs.Whole.Decided.{formula_decides_small}
use Rattle.formula_laws.proofs.deciding.formula_decides_shapes.Goals as goal

pub returns : goal.returns
returns c = λ suits x y ready few few'.
    let decides =
    formula_decides_small c.solved_has_a_shape.ensures c.shapes_are_solved.ensures c.shapes_shrink.ensures suits x y ready.left_length ready.right_length few few' ready.steps ready.decided
    in
    (λ satisfied. let s = decides.0 satisfied in (s.0, s.1, (s.2, s.3)), λ s. decides.1 (s.0, s.1, (s.2).0, (s.2).1))
