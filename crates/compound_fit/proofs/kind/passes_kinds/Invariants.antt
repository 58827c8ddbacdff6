use Rattle.std.proofs.Common.{◌≡◌, drop}
use Rattle.compound_fit.specs.Kinds.{passes_kinds}
use Rattle.compound_fit.proofs.kind.passes_kinds.Given as goal

abbrev pub invariant-loop-simple : goal.invariant-loop-simple
invariant-loop-simple l = passes_kinds l.kind (drop l.simple-index l.simples) ≡ passes_kinds l.kind l.simples
