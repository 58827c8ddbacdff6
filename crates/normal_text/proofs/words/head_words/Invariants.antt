use Rattle.std.proofs.Common.{◌≡◌, ◌++◌, [], length, reverse}
use Rattle.normal_text.specs.Words.{head_words}
use Rattle.normal_text.proofs.words.head_words.Given as goal

-- the words so far, and those to come
abbrev pub invariant-words : goal.invariant-words
invariant-words l = l.found.items ++ head_words (reverse l.rounds.items) l.rest ≡ head_words [] l.fn.words

abbrev pub decreases-words : goal.decreases-words
decreases-words l = length l.rest
