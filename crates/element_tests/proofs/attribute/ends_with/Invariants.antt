use Rattle.std.proofs.Common.{◌≡◌, length}
use Rattle.css_model.specs.Documents.Attribute.{ends_with}
use Rattle.element_tests.proofs.attribute.ends_with.Given as goal

abbrev pub invariant-loop-left : goal.invariant-loop-left
invariant-loop-left l = ends_with l.left l.v ≡ ends_with l.text l.v

abbrev pub decreases-loop-left : goal.decreases-loop-left
decreases-loop-left l = length l.left
