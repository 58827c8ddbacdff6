use Rattle.std.proofs.Common.{◌≡◌, ◌++◌, drop}
use Rattle.compound_fit.specs.Attributes.{attribute_tests}
use Rattle.compound_fit.proofs.attributes.push_tests.Given as goal

abbrev pub invariant-loop-simple : goal.invariant-loop-simple
invariant-loop-simple l = l.tests.items ++ attribute_tests (drop l.simple-index l.simples) ≡ l.initial.tests.items ++ attribute_tests l.simples
