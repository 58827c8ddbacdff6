-- What is told of an input: all that the rules of its sheet apply to the element of its document, in the order of the cascade (own).
use Rattle.std.specs.Prelude.{◌≡◌, ◌≤◌, ℕ, ◌+◌, ◌-◌, List, [], ◌∷◌, ◌++◌, length, map, Option, Some, None, Result, Ok, Err, Vec, codes, decimal}
use Rattle.std.specs.Global.{Global}
use Rattle.std.specs.List.{count_by, filter, flat_map, sum_by}
use Rattle.css_model.specs.declared.example.Example.{Example}
use Rattle.css_model.specs.declared.sheet.Item.{Item}
use Rattle.css_model.specs.Sheets.KeptItems.{is_kept}
use Rattle.css_model.specs.Sheets.Limits.{max_bytes}
use Rattle.css_model.specs.Sheets.Sheet.{sheet_of}
use Rattle.css_model.specs.Text.Characters.{line_feed, space}
use Rattle.inspect_laws.specs.Entries.{Entry, entries_of}
use Rattle.inspect_laws.specs.Groups.{AreFamilies, is_in_group}
use Rattle.inspect_laws.specs.Order.{AreOrdered}
use Rattle.inspect_laws.specs.Words.{Lost, When, Wins, Word, word_of}
use Rattle.line_places.specs.Lines.{place_of, place_text}
use Rattle.line_places.specs.Shown.{shown}
use Rattle.media_groups.specs.Opened.{opened_of}
use Rattle.style_text.specs.Inputs.{document_part, sheet_part}
use Rattle.style_text.specs.Lines.{specificity_text}
use Rattle.style_text.specs.Reading.{IsDocument, IsNoDocument}
use Rattle.style_text.specs.Styled.{IsSheetFault}
use Rattle.style_text.specs.declared.fault.StyleError.{StyleError}
use Rattle.style_text.specs.declared.fault.StyleError.TheVariants.{Document, Sheet, NoMemory}

-- ---- One line

abbrev pub word_text : Word → List ℕ
word_text Wins = codes "wins"
word_text When = codes "when"
word_text Lost = codes "lost"

-- the head of the block that an entry stands in, after a space
abbrev pub head_part : Option (List ℕ) → List ℕ
head_part None = []
head_part (Some head) = space ∷ shown head

-- `WORD PLACE A,B,C TEXT`, and ` HEAD` after it in an opened block: an entry of the sheet with these bytes, with its line feed
abbrev pub entry_line : (source : List ℕ) → Word → Entry → List ℕ
entry_line source word e =
    word_text word ++ space ∷ place_text (place_of source e.at) ++ space ∷ specificity_text e.specificity ++ space ∷ shown e.text ++ head_part e.head ++ line_feed ∷ []

-- the line of one of these entries
abbrev pub line_among : (source : List ℕ) → (all : List Entry) → Entry → List ℕ
line_among source all e = entry_line source (word_of all e) e

-- ---- All lines

-- the lines of the entries of a group, in their order
abbrev pub lines_in : (source : List ℕ) → (all sorted : List Entry) → (family : List ℕ) → List ℕ
lines_in source all sorted family = flat_map (line_among source all) (filter (is_in_group family) sorted)

-- How many items of a sheet and of its opened bodies are kept as they stand; opened blocks do not count.
abbrev pub kept_count : (source : List ℕ) (items : List Item) → ℕ
kept_count source items = (count_by is_kept items - length (opened_of items source)) + sum_by (λ m. count_by is_kept m.sheet.items) (opened_of items source)

-- `kept N`
abbrev pub kept_line : ℕ → List ℕ
kept_line count = codes "kept " ++ decimal count ++ line_feed ∷ []

-- The lines of each group of these entries, the greatest entry first, in the order of the names of their families.
pub record AreGroups (source : List ℕ) (all : List Entry) (texts : List (List ℕ)) : Type 0 where
  pub sorted : List Entry
  pub families : List (List ℕ)
  pub in_order : AreOrdered all sorted
  pub groups : AreFamilies all families
  pub texts_are : texts ≡ map (lines_in source sorted sorted) families

-- The text tells what a sheet with these bytes applies to the target of an example: how many items are kept, and then each group
-- after an empty line, the groups by the names of their families, and in each the greatest entry first.
pub record TellsEntries (x : Example) (source : List ℕ) (items : List Item) (text : List ℕ) : Type 0 where
  pub sorted : List Entry
  pub families : List (List ℕ)
  pub in_order : AreOrdered (entries_of x source items) sorted
  pub groups : AreFamilies (entries_of x source items) families
  pub text_is : text ≡ kept_line (kept_count source items) ++ flat_map (λ family. line_feed ∷ lines_in source (entries_of x source items) sorted family) families

-- ---- A document's text and a sheet

-- The document and the sheet are read, and the text tells what the one applies to the target of the other.
pub record IsInspection (document source text : List ℕ) : Type 0 where
  pub example : Example
  pub items : List Item
  pub document_read : IsDocument document example
  pub sheet_read : sheet_of source ≡ Ok items
  pub tells : TellsEntries example source items text

-- what is made of both: that, or the first fault; memory may run out at any input
abbrev pub Inspects : Result (Vec ℕ Global) StyleError → (document source : List ℕ) → Type 0
Inspects (Ok text) document source = IsInspection document source text.items
Inspects (Err (Document fault)) document source = IsNoDocument document fault
Inspects (Err (Sheet fault)) document source = IsSheetFault document source fault
Inspects (Err NoMemory) document source = Unit {0}

-- ---- An input

-- The input is short enough, and so is told of its two parts.
pub record IsInspected (input text : List ℕ) : Type 0 where
  pub short : length input ≤ max_bytes
  pub inspection : IsInspection (document_part input) (sheet_part input) text
