use Rattle.std.proofs.Common.{◌≡◌, drop}
use Rattle.shape_laws.specs.Document.SlotElements.{asks_for_content}
use Rattle.single_examples.proofs.empties.has_content.Given as goal

abbrev pub invariant-loop-simple : goal.invariant-loop-simple
invariant-loop-simple l = asks_for_content (drop l.simple-index l.simples) ≡ asks_for_content l.simples
