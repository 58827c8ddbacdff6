-- Laws on what is told of an input.
use Rattle.std.specs.Prelude.{◌≡◌, ◌≢◌, ℕ, Bool, List, ◌++◌, find, Some, Ok}
use Rattle.std.specs.List.{Contains}
use Rattle.std.specs.Option.{option_map}
use Rattle.css_model.specs.declared.example.Example.{Example}
use Rattle.css_model.specs.declared.sheet.Item.{Item}
use Rattle.css_model.specs.Documents.RunDocuments.{expand, target_of}
use Rattle.css_model.specs.Lists.{same_text}
use Rattle.css_model.specs.Sheets.Sheet.{sheet_of}
use Rattle.inspect_laws.specs.Entries.{Entry, entries_of}
use Rattle.inspect_laws.specs.Laws.{competes, none_holds, outcome_of, winner_where}
use Rattle.inspect_laws.specs.Words.{Lost, When, Wins, word_of}
use Rattle.style_text.specs.Inputs.{document_part, sheet_part}
use Rattle.style_text.specs.Reading.{IsDocument}
use Rattle.inspect_text.specs.InspectTexts.{IsInspected, TellsEntries, line_among}

-- What is told of an input tells what its sheet applies in its document.
abbrev pub EntriesAreTold : Type 0
EntriesAreTold = (input text : List ℕ) (x : Example) (items : List Item) → IsInspected input text
    → IsDocument (document_part input) x → sheet_of (sheet_part input) ≡ Ok items → TellsEntries x (sheet_part input) items text

-- a text is a part of another one
abbrev pub IsPartOf : (part text : List ℕ) → Type 0
IsPartOf part text = (before : List ℕ) × (behind : List ℕ) × (text ≡ before ++ (part ++ behind))

-- Each entry has its line in the text.
abbrev pub EachEntryHasItsLine : Type 0
EachEntryHasItsLine = (x : Example) (source : List ℕ) (items : List Item) (text : List ℕ) → TellsEntries x source items text
    → (e : Entry) → Contains (entries_of x source items) e → IsPartOf (line_among source (entries_of x source items) e) text

-- An entry with the word `wins` is the winner of its property where no head of an opened block holds (CSS Cascading 3, section 6).
abbrev pub WinsLinesWin : Type 0
WinsLinesWin = (x : Example) (source : List ℕ) (items : List Item) (text : List ℕ) → sheet_of source ≡ Ok items → TellsEntries x source items text
    → (e : Entry) → Contains (entries_of x source items) e → word_of (entries_of x source items) e ≡ Wins
    → winner_where none_holds (expand x) (target_of x) source items e.decl.name ≡ Some (outcome_of e)

-- One with the word `when` is the winner of its property where its head alone holds.
abbrev pub WhenLinesWin : Type 0
WhenLinesWin = (x : Example) (source : List ℕ) (items : List Item) (text : List ℕ) → sheet_of source ≡ Ok items → TellsEntries x source items text
    → (e : Entry) (head : List ℕ) → Contains (entries_of x source items) e → word_of (entries_of x source items) e ≡ When → e.head ≡ Some head
    → winner_where (same_text head) (expand x) (target_of x) source items e.decl.name ≡ Some (outcome_of e)

-- In each scene in which blocks with one head hold together, the winner of a property is the first entry in the order of the
-- lines that competes for it; and that one has not the word `lost`.
pub record FirstLineWins (x : Example) (source : List ℕ) (items : List Item) (sorted : List Entry) (holds : List ℕ → Bool) (name : List ℕ) : Type 0 where
  pub winner : winner_where holds (expand x) (target_of x) source items name ≡ option_map outcome_of (find (competes holds name) sorted)
  pub not_lost : (e : Entry) → find (competes holds name) sorted ≡ Some e → word_of (entries_of x source items) e ≢ Lost

abbrev pub LostLinesLose : Type 0
LostLinesLose = (x : Example) (source : List ℕ) (items : List Item) (text : List ℕ) → sheet_of source ≡ Ok items → (tells : TellsEntries x source items text)
    → (holds : List ℕ → Bool) (name : List ℕ) → FirstLineWins x source items tells.sorted holds name
