use Rattle.std.proofs.Common.{◌≡◌, drop}
use Rattle.attr_values.specs.Asked.{asked, is_equal}
use Rattle.attr_values.specs.Value.{head_of}
use Rattle.compound_fit.proofs.id.asked_id.Given as goal

abbrev pub invariant-loop-test : goal.invariant-loop-test
invariant-loop-test l = head_of (asked is_equal (drop l.test-index l.tests)) ≡ head_of (asked is_equal l.tests)
