use Rattle.std.proofs.Common.{take}
use Rattle.single_examples.specs.Examples.{RootPasses}
use Rattle.single_examples.proofs.root.passes_all.Given as goal

abbrev pub invariant-loop-simple : goal.invariant-loop-simple
invariant-loop-simple l = RootPasses l.root_is_child (take l.simple-index l.simples)
