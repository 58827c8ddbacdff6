use Rattle.std.proofs.Common.{length, ◌≡◌}
use Rattle.element_laws.specs.Ids.{ids_of_pair}
use Rattle.example_doc.proofs.Choices.{ChosenTo}
use Rattle.example_doc.proofs.elements.elements.Given as goal

abbrev pub invariant-loop-slot : goal.invariant-loop-slot
invariant-loop-slot l = ChosenTo l.plan.left l.plan.right l.shape 0 (ids_of_pair l.plan.left l.plan.right) l.elements.items l.taken.items × (length l.elements.items ≡ l.slot)
