use Rattle.std.proofs.Common.{◌≡◌, length}
use Rattle.css_model.specs.Documents.Attribute.{has_part}
use Rattle.element_tests.proofs.attribute.has_part.Given as goal

abbrev pub invariant-loop-left : goal.invariant-loop-left
invariant-loop-left l = has_part l.left l.v ≡ has_part l.text l.v

abbrev pub decreases-loop-left : goal.decreases-loop-left
decreases-loop-left l = length l.left
