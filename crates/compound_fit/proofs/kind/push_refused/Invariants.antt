use Rattle.std.proofs.Common.{◌≡◌, ◌++◌, drop}
use Rattle.compound_fit.specs.Kinds.{refused_kinds}
use Rattle.compound_fit.proofs.kind.push_refused.Given as goal

abbrev pub invariant-loop-simple : goal.invariant-loop-simple
invariant-loop-simple l = l.kinds.items ++ refused_kinds (drop l.simple-index l.simples) ≡ l.initial.kinds.items ++ refused_kinds l.simples
