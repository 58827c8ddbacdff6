use Rattle.std.proofs.Common.{◌≡◌, ◌++◌, drop}
use Rattle.sibling_counts.specs.Sides.{positions_of}
use Rattle.sibling_counts.proofs.scan.positions_of.Given as goal

abbrev pub invariant-loop-test : goal.invariant-loop-test
invariant-loop-test l = l.parts.items ++ positions_of (drop l.test-index l.tests) ≡ positions_of l.tests
