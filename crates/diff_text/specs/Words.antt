-- The word for a couple that is told (own).
use Rattle.std.specs.Prelude.{ℕ, Bool, true, false, not, ◌&&◌, ◌||◌, if◌then◌else◌, List, ◌++◌, Option, Some, None, codes}
use Rattle.css_model.specs.declared.example.Example.{Example}
use Rattle.css_model.specs.Lists.{begins_with, same_text}
use Rattle.sheet_members.specs.Labels.{same_head}
use Rattle.sheet_members.specs.Occurrences.{Occurrence}
use Rattle.turned_members.specs.declared.verdict.Verdict.{Verdict}
use Rattle.turned_members.specs.declared.verdict.Verdict.TheVariants as verdicts
use Rattle.turned_members.specs.Telling.{Told}
use Rattle.turned_members.specs.Turned.{Couple}
use Rattle.diff_text.specs.declared.word.Word.{Word}
use Rattle.diff_text.specs.declared.word.Word.TheVariants as words
use Rattle.diff_text.specs.Winning.{agree, name_of, winning}

-- whether two blocks have different heads
abbrev pub are_other_heads : Option (List ℕ) → Option (List ℕ) → Bool
are_other_heads None other = false
are_other_heads (Some head) None = false
are_other_heads (Some head) (Some other) = not (same_text head other)

-- whether the pairs of a couple are in blocks with different heads, which are not compared
abbrev pub are_in_other_blocks : Couple → Bool
are_in_other_blocks c = are_other_heads c.first.mine.occurrence.layer.head c.second.mine.occurrence.layer.head

-- whether a property is another one with `-` and more, as `margin-top` is of `margin`
abbrev pub is_part_of : (name whole : List ℕ) → Bool
is_part_of name whole = begins_with name (whole ++ codes "-")

abbrev pub is_all : (name : List ℕ) → Bool
is_all name = same_text name (codes "all")

-- Whether two properties may set one longhand by their spelling: they are equal, one is `all`, or one is a part of the other.
abbrev pub may_set_one : (name other : List ℕ) → Bool
may_set_one name other = same_text name other || (is_all name || is_all other) || (is_part_of name other || is_part_of other name)

-- whether the properties of a couple may set one longhand by their spelling
abbrev pub sets_one : Couple → Bool
sets_one c = may_set_one (name_of c.first.mine.occurrence) (name_of c.second.mine.occurrence)

-- whether the winners of two sheets with these occurrences agree at an example
abbrev pub winners_agree : (os ps : List Occurrence) → Couple → Example → Bool
winners_agree os ps c x = agree (winning x c os) (winning x c ps)

-- the word for a couple whose selectors meet at an example
abbrev pub meeting_word : (os ps : List Occurrence) → Couple → Example → Word
meeting_word os ps c x =
    if are_in_other_blocks c then words.Media
    else if not (sets_one c) then words.Related
    else if winners_agree os ps c x then words.Masked
    else words.Reversed

-- The word for a couple that is told, in sheets with these occurrences.
abbrev pub word_by : (os ps : List Occurrence) → Couple → Verdict → Word
word_by os ps c verdicts.Kept = words.Kept
word_by os ps c (verdicts.Outside reason) = words.Outside reason
word_by os ps c verdicts.Spent = words.Spent
word_by os ps c (verdicts.Meet x) = meeting_word os ps c x

abbrev pub word_of : (os ps : List Occurrence) → Told → Word
word_of os ps t = word_by os ps t.couple t.verdict
