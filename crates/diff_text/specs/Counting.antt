-- The groups of words in the first line.
use Rattle.std.specs.Prelude.{Bool}
use Rattle.diff_text.specs.declared.counting.Group.{Group}
use Rattle.diff_text.specs.declared.counting.Group.TheVariants as groups
use Rattle.diff_text.specs.declared.word.Word.{Word}
use Rattle.diff_text.specs.Lines.{is_masked, is_related, is_reversed, is_unsure}

-- whether a word is of a group
abbrev pub is_of : Group → Word → Bool
is_of groups.Reversed = is_reversed
is_of groups.Related = is_related
is_of groups.Masked = is_masked
is_of groups.Unsure = is_unsure
