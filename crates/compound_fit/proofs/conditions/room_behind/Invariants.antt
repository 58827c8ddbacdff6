use Rattle.std.proofs.Common.{◌≡◌, ◌+◌, drop}
use Rattle.compound_fit.specs.Conditions.{values_size}
use Rattle.compound_fit.proofs.conditions.room_behind.Given as goal

abbrev pub invariant-loop-simple : goal.invariant-loop-simple
invariant-loop-simple l = l.left + values_size l.simples ≡ l.room + values_size (drop l.simple-index l.simples)
