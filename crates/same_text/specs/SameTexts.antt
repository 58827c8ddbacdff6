-- What is told of two sheets, from the bytes of both to the text (own).
use Rattle.std.specs.Prelude.{◌≡◌, ◌≤◌, ◌<◌, ◌⊎◌, ℕ, List, take, drop, length, Option, Some, None, Ok, Err, slice_get}
use Rattle.css_model.specs.declared.fault.FaultKind.TheVariants.{TooLong}
use Rattle.css_model.specs.declared.fault.SheetFault.{SheetFault}
use Rattle.css_model.specs.declared.sheet.Item.{Item}
use Rattle.css_model.specs.Sheets.Limits.{max_bytes}
use Rattle.css_model.specs.Sheets.Sheet.{sheet_of}
use Rattle.css_model.specs.Text.Source.{text_at}
use Rattle.media_groups.specs.declared.media.Media.{Media}
use Rattle.media_groups.specs.Opened.{opened_of}
use Rattle.overlap.specs.PairsParts.{PairsParts}
use Rattle.overlap.specs.Remembered.{IsTrueList}
use Rattle.same_text.specs.declared.error.SameError.{SameError}
use Rattle.same_text.specs.declared.error.SameError.TheVariants.{NoSplit, First, Second, NoMemory}
use Rattle.same_text.specs.Telling.{IsComparedText, HasPlaces}
use Rattle.sheet_same.specs.declared.compared.Compared.{Compared}
use Rattle.sheet_same.specs.declared.compared.Difference.{Difference}
use Rattle.sheet_same.specs.Compared.{IsDifference}

-- the opened blocks of this number of two sheets
pub record AreBlocks (source : List ℕ) (s : List Item) (other : List ℕ) (t : List Item) (number : ℕ) (m m' : Media) : Type 0 where
  pub first : slice_get (opened_of s source) number ≡ Some m
  pub second : slice_get (opened_of t other) number ≡ Some m'

-- the pairs that are told are pairs of their sheets, or of the bodies of their opened blocks of this number
abbrev pub TellsPlaces : (source : List ℕ) → List Item → (other : List ℕ) → List Item → Compared → Option ℕ → Type 0
TellsPlaces source s other t compared None = HasPlaces s t compared
TellsPlaces source s other t compared (Some number) = (m m' : Media) × AreBlocks source s other t number m m' × HasPlaces m.sheet.items m'.sheet.items compared

-- the source and the items of the body of the opened block of a number
pub record IsBodyAt (source : List ℕ) (media : List Media) (number : ℕ) (text : List ℕ) (items : List Item) : Type 0 where
  pub block : Media
  pub at : slice_get media number ≡ Some block
  pub text_is : text ≡ text_at source block.body
  pub items_is : items ≡ block.sheet.items

-- The lines of what is found in two sheets, or in the bodies of their opened blocks of a number.
abbrev pub IsTold : (source : List ℕ) → List Item → (other : List ℕ) → List Item → Compared → Option ℕ → (text : List ℕ) → Type 0
IsTold source s other t compared None text = IsComparedText source s other t compared text
IsTold source s other t compared (Some number) text =
    (m m' : Media) × AreBlocks source s other t number m m'
    × IsComparedText (text_at source m.body) m.sheet.items (text_at other m'.body) m'.sheet.items compared text

-- Two sources are read as sheets, and this text tells what is found in them, by the answers that are held, which are true ones.
pub record AreCompared (source other : List ℕ) (pairs : PairsParts) (text : List ℕ) : Type 0 where
  pub first : List Item
  pub second : List Item
  pub first_read : sheet_of source ≡ Ok first
  pub second_read : sheet_of other ≡ Ok second
  pub difference : Difference
  pub is_difference : IsDifference pairs.answers source first other second difference
  pub all_true : ∥ IsTrueList pairs ∥₁
  pub told : IsTold source first other second difference.compared difference.body text

-- the most bytes of two sheets together
abbrev pub max_both : ℕ
max_both = 2097152

-- a text of two sheets, of which the first one has so many bytes
pub record IsParted (bytes : List ℕ) (split : ℕ) : Type 0 where
  pub short : length bytes ≤ max_both
  pub within : split ≤ length bytes

-- The text tells what is found in the sheet of the first bytes, so many, and that of the others.
pub record IsSameText (bytes : List ℕ) (split : ℕ) (pairs : PairsParts) (text : List ℕ) : Type 0 where
  pub parted : IsParted bytes split
  pub compared : AreCompared (take split bytes) (drop split bytes) pairs text

-- the errors of the first of two texts alone
abbrev pub IsFirst : (text : List ℕ) → SameError → Type 0
IsFirst text (NoSplit number) = ⊥
IsFirst text (First fault) = sheet_of text ≡ Err fault
IsFirst text (Second fault) = ⊥
IsFirst text NoMemory = Unit {0}

-- and those of the second one
abbrev pub IsSecond : (text : List ℕ) → SameError → Type 0
IsSecond text (NoSplit number) = ⊥
IsSecond text (First fault) = ⊥
IsSecond text (Second fault) = sheet_of text ≡ Err fault
IsSecond text NoMemory = Unit {0}

-- those of both, which are compared
abbrev pub IsOfTwo : (first second : List ℕ) → SameError → Type 0
IsOfTwo first second (NoSplit number) = ⊥
IsOfTwo first second (First fault) = sheet_of first ≡ Err fault
IsOfTwo first second (Second fault) = (items : List Item) × (sheet_of first ≡ Ok items) × (sheet_of second ≡ Err fault)
IsOfTwo first second NoMemory = Unit {0}

-- the fault of a sheet of too many bytes
abbrev pub too_long_fault : SheetFault
too_long_fault = record { kind = TooLong; at = max_bytes }

-- When each error comes: there are more bytes than two sheets may have, which is a fault of the first one; or fewer than the first
-- sheet was to have; or the first sheet has this fault; or it has none, and the second one has this fault, at a place of its own
-- bytes. Memory may run out at any text.
abbrev pub IsCause : (bytes : List ℕ) → (split : ℕ) → SameError → Type 0
IsCause bytes split (NoSplit number) = (length bytes ≤ max_both) × (length bytes < split) × (number ≡ split)
IsCause bytes split (First fault) = (max_both < length bytes) × (fault ≡ too_long_fault) ⊎ IsParted bytes split × IsOfTwo (take split bytes) (drop split bytes) (First fault)
IsCause bytes split (Second fault) = IsParted bytes split × IsOfTwo (take split bytes) (drop split bytes) (Second fault)
IsCause bytes split NoMemory = Unit {0}
