-- What is made of the bytes of a sheet by merging.
use Rattle.std.specs.Prelude.{◌≡◌, ◌↔◌, ℕ, ◌≤◌, List, Ok, length}
use Rattle.css_model.specs.declared.sheet.Item.{Item}
use Rattle.css_model.specs.Cascade.Order.{Keeps}
use Rattle.css_model.specs.Cascade.Winner.{Declared, AreMeanings, Understood, winner}
use Rattle.css_model.specs.Documents.Document.{Document, Target, IsLegal}
use Rattle.css_model.specs.Sheets.Limits.{max_items}
use Rattle.css_model.specs.Sheets.Printed.{printed}
use Rattle.css_model.specs.Sheets.Sheet.{sheet_of}
use Rattle.css_model.specs.Sheets.Sound.{IsSound}
use Rattle.css_model.specs.Sheets.Spelling.{AreSame}
use Rattle.order_laws.specs.Keeping.{AreRelated}
use Rattle.sheet_laws.specs.Twins.{AreTwins}
use Rattle.step_laws.specs.Free.{Answered, AreTrue}
use Rattle.step_laws.specs.Leading.{Leads, IsDone}
use Rattle.step_laws.specs.Left.{IsMadeOf}

-- Both sheets have the same winners (CSS Cascading 3, section 6): in every legal document, for every target,
-- whatever the kept items mean, and of all understood declarations whose names are related.
abbrev pub HaveSameWinners : List Item → List Item → Type 0
HaveSameWinners items items' = (doc : Document) (target : Target) (meanings : List (List Declared)) (us : List Understood) →
    IsLegal doc → AreMeanings items meanings → AreRelated us →
    winner doc target meanings items us ≡ winner doc target meanings items' us

-- One sheet was planned and is read back: steps lead from `old` to `new`, whose printed text is read as
-- `again`, the twin of `new`. It keeps `old`, and nothing is left to do in it.
pub record IsPlanned (answers : List Answered) (read : List ℕ) (old : List Item) (written : List ℕ) (again : List Item) : Type 0 where
  pub new : List Item
  pub steps : ℕ
  pub leads : Leads answers read steps old new
  pub printed_is : written ≡ printed read new
  pub same : AreSame read new written again
  pub twins : AreTwins read written new again
  pub keeps : Keeps read old written again
  pub done : IsDone answers written again

-- The bytes that were read are the sheet `old`, those that were written the sheet `again`, to which a plan
-- leads. What is written prints as itself, and is no more than what was read. What is kept as it stands has
-- the same meanings in both sheets, and both have the same winners.
pub record IsMerged (answers : List Answered) (read written : List ℕ) : Type 0 where
  pub old : List Item
  pub again : List Item
  pub old_read : sheet_of read ≡ Ok old
  pub again_read : sheet_of written ≡ Ok again
  pub planned : IsPlanned answers read old written again
  pub stays : printed written again ≡ written
  pub no_longer : length written ≤ length read
  pub same_meanings : (meanings : List (List Declared)) → AreMeanings old meanings ↔ AreMeanings again meanings
  pub winners : HaveSameWinners old again

-- where steps lead from a sound sheet is made of its parts
abbrev pub LeadingMakesOf : Type 0
LeadingMakesOf = (answers : List Answered) (source : List ℕ) (steps : ℕ) (old new : List Item) → IsSound source old → length old ≤ max_items →
    Leads answers source steps old new → IsMadeOf source old new

-- What a plan by true answers leads to is written as a merged sheet.
abbrev pub PlannedIsMerged : Type 0
PlannedIsMerged = (answers : List Answered) → AreTrue answers → (read : List ℕ) (steps : ℕ) (old new : List Item) → sheet_of read ≡ Ok old →
    Leads answers read steps old new → IsDone answers read new → IsMerged answers read (printed read new)
