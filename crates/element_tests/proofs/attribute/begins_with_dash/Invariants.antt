use Rattle.std.proofs.Common.{◌≡◌, [], ◌∷◌, ◌++◌, length}
use Rattle.css_model.specs.Lists.{begins_with}
use Rattle.element_tests.proofs.attribute.begins_with_dash.Given as goal

abbrev pub invariant-loop-v_left : goal.invariant-loop-v_left
invariant-loop-v_left l = begins_with l.text_left (l.v_left ++ 0x2D ∷ []) ≡ begins_with l.text (l.v ++ 0x2D ∷ [])

abbrev pub decreases-loop-v_left : goal.decreases-loop-v_left
decreases-loop-v_left l = length l.v_left
