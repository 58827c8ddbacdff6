use Rattle.std.proofs.Common.{◌≡◌, drop}
use Rattle.single_examples.specs.Trying.{asks_for_none}
use Rattle.single_examples.proofs.empties.has_none.Given as goal

abbrev pub invariant-loop-simple : goal.invariant-loop-simple
invariant-loop-simple l = asks_for_none (drop l.simple-index l.simples) ≡ asks_for_none l.simples
