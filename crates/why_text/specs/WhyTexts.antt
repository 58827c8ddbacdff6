-- Why a rule of a sheet may not be moved, from the bytes of the sheet to the text (own).
use Rattle.std.specs.Prelude.{◌≡◌, ℕ, ◌-◌, nat_le, Bool, ◌&&◌, if◌then◌else◌, List, [], length, Option, Some, None, Result, Ok, Err, slice_get}
use Rattle.css_model.specs.declared.example.Example.{Example}
use Rattle.css_model.specs.declared.fault.SheetFault.{SheetFault}
use Rattle.css_model.specs.declared.sheet.Item.{Item}
use Rattle.css_model.specs.Sheets.Sheet.{sheet_of}
use Rattle.doc_text.specs.DocText.{doc_text}
use Rattle.overlap.specs.PairsParts.{PairsParts}
use Rattle.overlap.specs.Remembered.{IsTrueList}
use Rattle.report_text.specs.declared.explaining.Word.TheVariants as words
use Rattle.report_text.specs.Explanation.{lines_of}
use Rattle.sheet_order.specs.declared.places.PairPlace.{PairPlace}
use Rattle.sheet_order.specs.declared.places.Reversed.{Reversed}
use Rattle.why_text.specs.declared.error.WhyError.{WhyError}
use Rattle.why_text.specs.declared.error.WhyError.TheVariants as errors
use Rattle.why_text.specs.declared.explaining.Explained.{Explained}
use Rattle.why_text.specs.declared.explaining.Explained.TheVariants.{Free, KeptItem, Blocked, Outside, Spent}
use Rattle.why_text.specs.Explaining.{AsksAmong, IsExplained, reversed_by_moving}
use Rattle.why_text.specs.PairTexts.{IsPairText, IsPlace}

-- ---- The numbers, which are given from 1

-- whether a sheet of so many items has one of this number
abbrev pub is_item : (count number : ℕ) → Bool
is_item count number = nat_le 1 number && nat_le number count

-- the first of the two numbers that no item has, if there is one
abbrev pub no_item : (count from to : ℕ) → Option ℕ
no_item count from to = if is_item count from then (if is_item count to then None else Some to) else Some from

-- ---- What is printed, of numbers from 0

-- the pairs that are told are pairs of the sheet
abbrev pub HasPairs : List Item → Explained → Type 0
HasPairs items Free = Unit {0}
HasPairs items (KeptItem n) = Unit {0}
HasPairs items (Blocked moved other example) = IsPlace items moved × IsPlace items other
HasPairs items (Outside reason) = Unit {0}
HasPairs items Spent = Unit {0}

-- the lines of two pairs and a document
pub record IsBlockedText (source : List ℕ) (items : List Item) (moved other : PairPlace) (example : Example) (text : List ℕ) : Type 0 where
  pub first : List ℕ
  pub second : List ℕ
  pub first_is : IsPairText source items moved first
  pub second_is : IsPairText source items other second
  pub text_is : text ≡ lines_of words.Blocked first second (doc_text example)

-- the lines of what is told
abbrev pub IsToldText : (source : List ℕ) → List Item → Explained → (text : List ℕ) → Type 0
IsToldText source items Free text = text ≡ lines_of words.Free [] [] []
IsToldText source items (KeptItem n) text = text ≡ lines_of (words.Kept n) [] [] []
IsToldText source items (Blocked moved other example) text = IsBlockedText source items moved other example text
IsToldText source items (Outside reason) text = text ≡ lines_of (words.Outside reason) [] [] []
IsToldText source items Spent text = text ≡ lines_of words.Spent [] [] []

-- The lines of what hinders the move of an item, by the answers that are held, which are true ones.
pub record IsMoveText (source : List ℕ) (items : List Item) (from to : ℕ) (pairs : PairsParts) (text : List ℕ) : Type 0 where
  pub item : Item
  pub item_at : slice_get items from ≡ Some item
  pub explained : Explained
  pub is_explained : IsExplained pairs.answers items from to item explained
  pub all_true : ∥ IsTrueList pairs ∥₁
  pub text_is : IsToldText source items explained text

-- ---- From the source on

-- The source is read as a sheet with both items, and these are the lines of the move.
pub record IsWhyText (source : List ℕ) (from to : ℕ) (pairs : PairsParts) (text : List ℕ) : Type 0 where
  pub items : List Item
  pub read : sheet_of source ≡ Ok items
  pub numbers : no_item (length items) from to ≡ None
  pub move : IsMoveText source items (from - 1) (to - 1) pairs text

-- When each error comes: the sheet has this fault; or it has none, and no item has this number. Memory may
-- run out at any sheet.
abbrev pub IsCause : (source : List ℕ) → (from to : ℕ) → WhyError → Type 0
IsCause source from to (errors.Sheet fault) = sheet_of source ≡ Err fault
IsCause source from to (errors.NoItem number) = (items : List Item) × (sheet_of source ≡ Ok items) × (no_item (length items) from to ≡ Some number)
IsCause source from to errors.NoMemory = Unit {0}

-- ---- What is asked

-- what the move of an item reverses, if there is one
abbrev pub reversed_with : List Item → (from to : ℕ) → Option Item → List Reversed
reversed_with items from to None = []
reversed_with items from to (Some item) = reversed_by_moving items from to item

-- the same where both numbers are of items
abbrev pub reversed_unless : Option ℕ → List Reversed → List Reversed
reversed_unless None entries = entries
reversed_unless (Some number) entries = []

-- What is asked: nothing where the sheet is refused or an item is missing, and else entries of what the move
-- reverses.
abbrev pub Asks : Result (List Item) SheetFault → (from to : ℕ) → (old new : PairsParts) → Type 0
Asks (Err fault) from to old new = AsksAmong [] [] old new
Asks (Ok items) from to old new =
    AsksAmong items (reversed_unless (no_item (length items) from to) (reversed_with items (from - 1) (to - 1) (slice_get items (from - 1)))) old new
