use Rattle.std.proofs.Common.{◌≡◌, [], ◌++◌, drop}
use Rattle.attr_values.specs.Asked.{asked, is_part}
use Rattle.attr_values.specs.Value.{followed}
use Rattle.attr_values.proofs.value.push_parts.Given as goal

abbrev pub invariant-loop-test : goal.invariant-loop-test
invariant-loop-test l = l.out.items ++ followed l.f (asked is_part (drop l.test-index l.tests)) [] ≡ l.initial.out.items ++ followed l.f (asked is_part l.tests) []
