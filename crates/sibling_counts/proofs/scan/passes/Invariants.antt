use Rattle.std.proofs.Common.{take}
use Rattle.std.specs.List.{All}
use Rattle.sibling_counts.specs.Sides.{PassesTest}
use Rattle.sibling_counts.proofs.scan.passes.Given as goal

abbrev pub invariant-loop-test : goal.invariant-loop-test
invariant-loop-test l = All (PassesTest l.number) (take l.test-index l.tests)
