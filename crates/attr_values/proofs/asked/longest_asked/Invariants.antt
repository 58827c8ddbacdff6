use Rattle.std.proofs.Common.{◌≡◌, drop}
use Rattle.attr_values.specs.Asked.{asked, is_op}
use Rattle.attr_values.specs.Value.{longer, longest}
use Rattle.attr_values.proofs.asked.longest_asked.Given as goal

abbrev pub invariant-loop-test : goal.invariant-loop-test
invariant-loop-test l = longer l.best (longest (asked (is_op l.op) (drop l.test-index l.tests))) ≡ longest (asked (is_op l.op) l.tests)
