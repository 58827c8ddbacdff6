use Rattle.std.proofs.Common.{◌≡◌, ◌++◌, drop}
use Rattle.attr_values.specs.Value.{more_words}
use Rattle.attr_values.proofs.value.push_more.Given as goal

abbrev pub invariant-loop-word : goal.invariant-loop-word
invariant-loop-word l = l.out.items ++ more_words (drop l.word-index l.words) ≡ l.initial.out.items ++ more_words l.words
