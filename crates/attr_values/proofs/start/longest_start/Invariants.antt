use Rattle.std.proofs.Common.{◌≡◌, drop}
use Rattle.attr_values.specs.Value.{longer, longest, start_text, starts}
use Rattle.attr_values.proofs.start.longest_start.Given as goal

abbrev pub invariant-loop-test : goal.invariant-loop-test
invariant-loop-test l = longer (start_text l.best.value.now l.best.dash) (longest (starts (drop l.test-index l.tests))) ≡ longest (starts l.tests)
