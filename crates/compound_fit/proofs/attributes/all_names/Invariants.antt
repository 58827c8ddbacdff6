use Rattle.std.proofs.Common.{◌≡◌, ◌++◌, drop}
use Rattle.compound_fit.specs.Attributes.{names_of}
use Rattle.compound_fit.proofs.attributes.all_names.Given as goal

abbrev pub invariant-loop-test : goal.invariant-loop-test
invariant-loop-test l = l.names.items ++ names_of (drop l.test-index l.tests) ≡ names_of l.tests
