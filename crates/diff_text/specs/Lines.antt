-- The lines of what is found in two sheets (own).
use Rattle.std.specs.Prelude.{ℕ, ◌+◌, ◌==◌, Bool, true, false, if◌then◌else◌, List, [], ◌∷◌, ◌++◌, length, Option, Some, None, codes, decimal}
use Rattle.std.specs.List.{count_by, flat_map}
use Rattle.css_model.specs.declared.example.Example.{Example}
use Rattle.css_model.specs.Sheets.Printed.{printed_declaration, printed_selector}
use Rattle.css_model.specs.Sheets.Sheet.{start_of}
use Rattle.css_model.specs.Text.Characters.{close_curly, line_feed, open_curly, space}
use Rattle.doc_text.specs.DocText.{doc_text}
use Rattle.line_places.specs.Lines.{place_of, place_text}
use Rattle.line_places.specs.Shown.{shown}
use Rattle.media_groups.specs.Heads.{head_text}
use Rattle.sheet_members.specs.Compared.{Common, Compared, changed}
use Rattle.sheet_members.specs.Layers.{Layer}
use Rattle.sheet_members.specs.Members.{Member}
use Rattle.sheet_members.specs.Occurrences.{Occurrence, Part, Paired, Kept}
use Rattle.turned_members.specs.declared.verdict.Verdict.{Verdict}
use Rattle.turned_members.specs.declared.verdict.Verdict.TheVariants as verdicts
use Rattle.turned_members.specs.Telling.{Told}
use Rattle.turned_members.specs.Turned.{Couple}
use Rattle.diff_text.specs.declared.word.Word.{Word}
use Rattle.diff_text.specs.declared.word.Word.TheVariants as words
use Rattle.diff_text.specs.Winning.{winning}
use Rattle.diff_text.specs.Words.{word_of}

-- ---- One member

-- the text of a part, in the bytes of its layer: of a pair a rule of its selector and declaration, of a kept item its head
abbrev pub part_text : (source : List ℕ) → Part → List ℕ
part_text source (Paired s d) = printed_selector source s ++ open_curly ∷ printed_declaration source d ++ close_curly ∷ []
part_text source (Kept item) = head_text source item

-- a text in the block with this head, if there is one
abbrev pub inside : (shell : Option (List ℕ)) → List ℕ → List ℕ
inside None text = text
inside (Some head) text = head ++ open_curly ∷ text ++ close_curly ∷ []

abbrev pub text_of : Occurrence → List ℕ
text_of o = inside o.layer.shell (part_text o.layer.source o.part)

-- where a part begins in the bytes of its layer: a pair at its property
abbrev pub start_in : Part → ℕ
start_in (Paired s d) = d.name.start
start_in (Kept item) = start_of item

-- where an occurrence begins in the sheet with these bytes, by line and column
abbrev pub place : (text : List ℕ) → Occurrence → List ℕ
place text o = place_text (place_of text (o.layer.start + start_in o.part))

-- `PLACE TEXT`
abbrev pub spot : (text : List ℕ) → Occurrence → List ℕ
spot text o = place text o ++ space ∷ shown (text_of o)

-- ---- One couple

-- the word at the start of its line, with a space
abbrev pub front_of : Word → List ℕ
front_of words.Kept = codes "unsure kept "
front_of (words.Outside reason) = codes "unsure " ++ decimal reason ++ codes " "
front_of words.Spent = codes "unsure spent "
front_of words.Media = codes "unsure media "
front_of words.Related = codes "related "
front_of words.Masked = codes "masked "
front_of words.Reversed = codes "reversed "

-- `WORD PLACE TEXT PLACE TEXT`
abbrev pub couple_line : (text : List ℕ) → Word → Couple → List ℕ
couple_line text word c =
    front_of word ++ spot text c.first.mine.occurrence ++ space ∷ spot text c.second.mine.occurrence ++ line_feed ∷ []

-- the winner of a sheet with these bytes, if there is one
abbrev pub winner_text : (text : List ℕ) → Option Occurrence → List ℕ
winner_text text None = []
winner_text text (Some o) = spot text o

-- the two sheets, each with its bytes and what occurs in it
pub record Sides : Type 0 where
  pub text : List ℕ
  pub occurrences : List Occurrence
  pub other : List ℕ
  pub others : List Occurrence

-- the lines of the winners of both sheets
abbrev pub winner_lines : Sides → (first second : Option Occurrence) → List ℕ
winner_lines x first second = codes "first " ++ winner_text x.text first ++ codes "\nsecond " ++ winner_text x.other second ++ line_feed ∷ []

-- the lines of an example: its document, and the winner of each sheet there
abbrev pub example_lines : Sides → Couple → Example → List ℕ
example_lines x c e = doc_text e ++ winner_lines x (winning e c x.occurrences) (winning e c x.others)

-- those of what is found in a couple
abbrev pub verdict_lines : Sides → Couple → Verdict → List ℕ
verdict_lines x c (verdicts.Meet e) = example_lines x c e
verdict_lines x c verdicts.Kept = []
verdict_lines x c (verdicts.Outside reason) = []
verdict_lines x c verdicts.Spent = []

-- those after the line of a couple: of a reversed one the lines of its example
abbrev pub evidence : Sides → Word → Told → List ℕ
evidence x words.Reversed t = verdict_lines x t.couple t.verdict
evidence x words.Kept t = []
evidence x (words.Outside reason) t = []
evidence x words.Spent t = []
evidence x words.Media t = []
evidence x words.Related t = []
evidence x words.Masked t = []

abbrev pub told_word : Sides → Told → Word
told_word x t = word_of x.occurrences x.others t

abbrev pub told_lines : Sides → Told → List ℕ
told_lines x t = couple_line x.text (told_word x t) t.couple ++ evidence x (told_word x t) t

-- ---- One that is lacking or changed

abbrev pub missing_line : Sides → Member → List ℕ
missing_line x m = codes "missing " ++ spot x.text m.occurrence ++ line_feed ∷ []

abbrev pub extra_line : Sides → Member → List ℕ
extra_line x m = codes "extra " ++ spot x.other m.occurrence ++ line_feed ∷ []

-- the declaration of a pair after a space; of a kept item nothing
abbrev pub declaration_part : Layer → Part → List ℕ
declaration_part l (Paired s d) = space ∷ shown (printed_declaration l.source d)
declaration_part l (Kept item) = []

-- `changed PLACE TEXT PLACE DECLARATION`
abbrev pub changed_line : Sides → Common → List ℕ
changed_line x c =
    codes "changed " ++ spot x.text c.mine.occurrence ++ space ∷ place x.other c.yours.occurrence
    ++ declaration_part c.yours.occurrence.layer c.yours.occurrence.part ++ line_feed ∷ []

-- ---- All lines

-- the group of a word in the first line
abbrev pub is_unsure : Word → Bool
is_unsure words.Kept = true
is_unsure (words.Outside reason) = true
is_unsure words.Spent = true
is_unsure words.Media = true
is_unsure words.Related = false
is_unsure words.Masked = false
is_unsure words.Reversed = false

abbrev pub is_related : Word → Bool
is_related words.Related = true
is_related _ = false

abbrev pub is_masked : Word → Bool
is_masked words.Masked = true
is_masked _ = false

abbrev pub is_reversed : Word → Bool
is_reversed words.Reversed = true
is_reversed _ = false

-- how many of these words there are
abbrev pub counted : (Word → Bool) → List Word → List ℕ
counted group told = decimal (count_by group told)

-- `reversed R related L masked H unsure U missing M extra E changed C`
abbrev pub first_line : List Word → Compared → List ℕ
first_line told c =
    codes "reversed " ++ counted is_reversed told ++ codes " related " ++ counted is_related told ++ codes " masked " ++ counted is_masked told
    ++ codes " unsure " ++ counted is_unsure told ++ codes " missing " ++ decimal (length c.missing) ++ codes " extra " ++ decimal (length c.extra)
    ++ codes " changed " ++ decimal (length (changed c)) ++ line_feed ∷ []

-- `limit K`, if so many couples are told
abbrev pub limit_line : (limit : ℕ) → List Told → List ℕ
limit_line limit told = if length told == limit then codes "limit " ++ decimal limit ++ line_feed ∷ [] else []
