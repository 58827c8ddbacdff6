use Rattle.std.proofs.Common.{◌≡◌, length}
use Rattle.std.specs.List.{list_any}
use Rattle.normal_text.specs.Normal.{is_custom_word}
use Rattle.normal_text.proofs.normal.has_custom_word.Given as goal

-- none so far
abbrev pub invariant-words : goal.invariant-words
invariant-words l = list_any is_custom_word l.rest ≡ list_any is_custom_word l.fn.words

abbrev pub decreases-words : goal.decreases-words
decreases-words l = length l.rest
