use Rattle.std.proofs.Common.{◌≡◌, [], ◌++◌, drop}
use Rattle.attr_values.specs.Value.{followed}
use Rattle.attr_values.proofs.value.push_words.Given as goal

abbrev pub invariant-loop-word : goal.invariant-loop-word
invariant-loop-word l = l.out.items ++ followed l.w (drop l.word-index l.words) [] ≡ l.initial.out.items ++ followed l.w l.words []
