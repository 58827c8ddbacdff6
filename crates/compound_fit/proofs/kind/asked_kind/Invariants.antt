use Rattle.std.proofs.Common.{◌≡◌, drop}
use Rattle.attr_values.specs.Value.{head_of}
use Rattle.compound_fit.specs.Kinds.{asked_kinds}
use Rattle.compound_fit.proofs.kind.asked_kind.Given as goal

abbrev pub invariant-loop-simple : goal.invariant-loop-simple
invariant-loop-simple l = head_of (asked_kinds (drop l.simple-index l.simples)) ≡ head_of (asked_kinds l.simples)
