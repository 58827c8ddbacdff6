-- Items in the place of those of a sheet, where a rule with too many pairs may lack some of its selectors.
use Rattle.std.specs.Prelude.{◌≡◌, ◌<◌, ◌≤◌, ◌⊎◌, ◌+◌, ◌-◌, ◌*◌, nat_lt, nat_le, ◌&&◌, Bool, false, ℕ, List, [], ◌∷◌, ◌++◌, length, Option, Some, None, Result, Ok, Err}
use Rattle.css_model.specs.declared.fault.SheetFault.{SheetFault}
use Rattle.css_model.specs.declared.reason.Reason.{Reason}
use Rattle.css_model.specs.declared.sheet.Item.{Item}
use Rattle.css_model.specs.declared.sheet.SelItem.{SelItem}
use Rattle.css_model.specs.Sheets.Limits.{max_pairs}
use Rattle.css_model.specs.Sheets.Sheet.{pairs_of, start_of}
use Rattle.sel_parse.specs.Answers.{IsError}
use Rattle.sel_parse.specs.declared.error.SelError.{SelError}
use Rattle.sheet_read.specs.declared.fault.SheetError.{SheetError}
use Rattle.sheet_read.specs.Reading.{Refuses}

-- so many selectors leave room for the pairs of another one, in a rule that declares something
abbrev pub has_room : ℕ → ℕ → ℕ → Bool
has_room decls room selectors = nat_lt 0 decls && nat_le (selectors * decls) room

-- the first selectors of a rule: all of them, or so many that there is no room for more
pub record AreFirst (decls room : ℕ) (first all : List SelItem) : Type 0 where
  pub more : List SelItem
  pub is : all ≡ first ++ more
  pub enough : (more ≡ []) ⊎ (has_room decls room (length first) ≡ false)

-- a reader of selectors gives the first of those that are read, or the number of the reason against one
abbrev pub GivesFirst : {X : Type 0} → (X → List SelItem) → ℕ → ℕ → Result X SelError → Result (List SelItem) Reason → Type 0
GivesFirst view decls room (Ok x) read = (all : List SelItem) × (read ≡ Ok all) × AreFirst decls room (view x) all
GivesFirst view decls room (Err e) read = IsError e read

-- An item in the place of another, with room for so many pairs: the same one where that one's pairs have room;
-- else one that begins where it does, and whose pairs have no room either.
pub record StandsFor (room : ℕ) (x y : Item) : Type 0 where
  pub start : start_of x ≡ start_of y
  pub fits : pairs_of y ≤ room → x ≡ y
  pub many : room < pairs_of y → room < pairs_of x

-- the same, where an item may be dropped
abbrev pub MayStandFor : ℕ → Option Item → Option Item → Type 0
MayStandFor room None None = Unit {0}
MayStandFor room None (Some y) = ⊥
MayStandFor room (Some x) None = ⊥
MayStandFor room (Some x) (Some y) = StandsFor room x y

-- the same of the items of a sheet, behind so many pairs
abbrev pub StandFor : ℕ → List Item → List Item → Type 0
StandFor n [] [] = Unit {0}
StandFor n [] (y ∷ ys) = ⊥
StandFor n (x ∷ xs) [] = ⊥
StandFor n (x ∷ xs) (y ∷ ys) = StandsFor (max_pairs - n) x y × StandFor (n + pairs_of x) xs ys

-- a reader of items gives such ones, or the fault
abbrev pub GivesItems : {X : Type 0} → (X → List Item) → Result X SheetError → Result (List Item) SheetFault → Type 0
GivesItems view (Ok x) read = (items : List Item) × (read ≡ Ok items) × StandFor 0 (view x) items
GivesItems view (Err e) read = Refuses e read
