use Rattle.std.proofs.Common.{◌≡◌, ◌++◌, length}
use Rattle.normal_text.specs.Normal.{spelled}
use Rattle.normal_text.proofs.normal.spelled.Given as goal

-- the text so far, and that of the words to come
abbrev pub invariant-words : goal.invariant-words
invariant-words l = l.out.items ++ spelled l.rest ≡ spelled l.fn.words

abbrev pub decreases-words : goal.decreases-words
decreases-words l = length l.rest
