use Rattle.std.proofs.Common.{◌≡◌, ◌++◌, drop}
use Rattle.std.specs.List.{filter_map}
use Rattle.sibling_counts.specs.Sides.{behind_test}
use Rattle.sibling_counts.proofs.side.push_behinds.Given as goal

abbrev pub invariant-loop-simple : goal.invariant-loop-simple
invariant-loop-simple l = l.tests.items ++ filter_map behind_test (drop l.simple-index l.simples) ≡ l.fn.tests.items ++ filter_map behind_test l.simples
