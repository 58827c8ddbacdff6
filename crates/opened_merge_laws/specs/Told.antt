-- What is told of the text of a sheet that was merged with its opened blocks.
use Rattle.std.specs.Prelude.{◌≡◌, ℕ, ◌+◌, List, [], ◌∷◌, Ok, length, map, Option, None}
use Rattle.css_model.specs.declared.sheet.Item.{Item}
use Rattle.css_model.specs.Sheets.Sheet.{sheet_of}
use Rattle.css_model.specs.Sheets.SheetParts.{SheetParts}
use Rattle.media_groups.specs.Opened.{opened_of}
use Rattle.media_groups.specs.Printed.{printed_with}
use Rattle.opened_merge_laws.specs.Merged.{IsPlannedWithin, IsSpent}
use Rattle.opened_merge_laws.specs.Plans.{AreBodyPlansWithin, IsPlanWithin}
use Rattle.step_laws.specs.Free.{Answered, AreTrue}

-- how many items sheets have together
abbrev pub items_in : List SheetParts → ℕ
items_in [] = 0
items_in (s ∷ sheets) = length s.items + items_in sheets

-- how many items a sheet has, top-level items and those of the bodies of its opened blocks together
abbrev pub items_opened : List Item → List ℕ → ℕ
items_opened items source = length items + items_in (map (λ m. m.sheet) (opened_of items source))

-- The numbers that are told of a merged text: of the items that were read, of those that it has, each time with those inside opened
-- blocks, and of the steps that led to it, those of bodies among them.
pub record IsToldWithin (spent : Option ℕ) (answers : List Answered) (read written : List ℕ) (read_items written_items taken : ℕ) : Type 0 where
  pub old : List Item
  pub again : List Item
  pub old_read : sheet_of read ≡ Ok old
  pub again_read : sheet_of written ≡ Ok again
  pub planned : IsPlannedWithin spent answers read old written again
  pub read_items_are : read_items ≡ items_opened old read
  pub written_items_are : written_items ≡ items_opened again written
  pub taken_is : taken ≡ planned.steps + planned.body_steps

-- the same, where nothing is left to do
abbrev pub IsToldOpened : List Answered → (read written : List ℕ) → (read_items written_items taken : ℕ) → Type 0
IsToldOpened = IsToldWithin None

-- Of the text of planned sheets these numbers are told: the written text has as many items as the planned sheets.
abbrev pub PlannedIsToldOpened : Type 0
PlannedIsToldOpened = (spent : Option ℕ) (answers : List Answered) → AreTrue answers → (read : List ℕ) (steps body_steps : ℕ) (old new : List Item) (bodies : List SheetParts) →
    sheet_of read ≡ Ok old → IsPlanWithin spent answers read steps old new → AreBodyPlansWithin spent answers read (opened_of old read) body_steps bodies → IsSpent spent answers (steps + body_steps) →
    IsToldWithin spent answers read (printed_with read (opened_of old read) bodies new) (items_opened old read) (length new + items_in bodies) (steps + body_steps)
