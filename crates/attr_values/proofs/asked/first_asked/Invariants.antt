use Rattle.std.proofs.Common.{◌≡◌, drop}
use Rattle.attr_values.specs.Asked.{asked, is_op}
use Rattle.attr_values.specs.Value.{head_of}
use Rattle.attr_values.proofs.asked.first_asked.Given as goal

abbrev pub invariant-loop-test : goal.invariant-loop-test
invariant-loop-test l = head_of (asked (is_op l.op) (drop l.test-index l.tests)) ≡ head_of (asked (is_op l.op) l.tests)
