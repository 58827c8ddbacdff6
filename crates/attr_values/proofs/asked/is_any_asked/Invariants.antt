use Rattle.std.proofs.Common.{◌≡◌, drop}
use Rattle.attr_values.specs.Asked.{asked, is_op, some_of}
use Rattle.attr_values.proofs.asked.is_any_asked.Given as goal

abbrev pub invariant-loop-test : goal.invariant-loop-test
invariant-loop-test l = some_of (asked (is_op l.op) (drop l.test-index l.tests)) ≡ some_of (asked (is_op l.op) l.tests)
