use Rattle.std.proofs.Common.{◌≡◌, [], drop}
use Rattle.attr_values.specs.Asked.{asked, is_word}
use Rattle.attr_values.specs.Value.{kept_of}
use Rattle.attr_values.proofs.value.words.Given as goal

abbrev pub invariant-loop-test : goal.invariant-loop-test
invariant-loop-test l = kept_of l.kept.items (asked is_word (drop l.test-index l.tests)) ≡ kept_of [] (asked is_word l.tests)
