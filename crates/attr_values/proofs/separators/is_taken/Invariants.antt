use Rattle.std.proofs.Common.{◌≡◌, drop}
use Rattle.attr_values.specs.Separators.{is_taken}
use Rattle.attr_values.proofs.separators.is_taken.Given as goal

abbrev pub invariant-loop-test : goal.invariant-loop-test
invariant-loop-test l = is_taken l.c (drop l.test-index l.tests) ≡ is_taken l.c l.tests
