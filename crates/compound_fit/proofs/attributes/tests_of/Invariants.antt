use Rattle.std.proofs.Common.{◌≡◌, ◌++◌, drop}
use Rattle.compound_fit.specs.Attributes.{tests_of}
use Rattle.compound_fit.proofs.attributes.tests_of.Given as goal

abbrev pub invariant-loop-test : goal.invariant-loop-test
invariant-loop-test l = l.found.items ++ tests_of l.name (drop l.test-index l.tests) ≡ tests_of l.name l.tests
