use Rattle.std.proofs.Common.{◌≡◌, length, map}
use Rattle.css_model.specs.Documents.Document.{value_among}
use Rattle.element_tests.proofs.attribute.value_of.Given as goal

abbrev pub invariant-loop-left : goal.invariant-loop-left
invariant-loop-left l = value_among (map (λ a. record { name = a.0; value = a.1 }) l.left) l.name ≡ value_among (map (λ a. record { name = a.0; value = a.1 }) l.attrs) l.name

abbrev pub decreases-loop-left : goal.decreases-loop-left
decreases-loop-left l = length l.left
