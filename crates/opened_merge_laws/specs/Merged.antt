-- What is made of the bytes of a sheet by merging it, and each body of its opened blocks of media by itself.
use Rattle.std.specs.Prelude.{◌≡◌, ◌↔◌, ℕ, ◌+◌, ◌≤◌, List, Ok, length, Option, Some, None}
use Rattle.std.specs.List.{AllByRecursion, AllZip}
use Rattle.css_model.specs.declared.sheet.Item.{Item}
use Rattle.css_model.specs.Sheets.Sheet.{sheet_of}
use Rattle.css_model.specs.Sheets.SheetParts.{SheetParts}
use Rattle.css_model.specs.Text.Source.{text_at}
use Rattle.media_groups.specs.Opened.{opened_of}
use Rattle.media_groups.specs.Printed.{IsSoundBody, printed_opened, printed_with}
use Rattle.opened_laws.specs.Media.Scenes.{IsSceneOf, KeptScene}
use Rattle.opened_laws.specs.Again.{AreOpenedAgain}
use Rattle.opened_merge_laws.specs.Contents.{HaveSameWinnersOpened, opened_content}
use Rattle.opened_merge_laws.specs.Plans.{AreBodyPlansWithin, IsPlanWithin}
use Rattle.step_laws.specs.Free.{Answered, AreTrue}
use Rattle.step_laws.specs.Leading.{IsDone}

-- nothing is left to do in a sheet, nor in any body of its opened blocks
pub record IsDoneOpened (answers : List Answered) (source : List ℕ) (items : List Item) : Type 0 where
  pub outside : IsDone answers source items
  pub inside : AllByRecursion (λ m. IsDone answers (text_at source m.body) m.sheet.items) (opened_of items source)

-- so much work was spent: the steps that were taken and the answers that are held are together as many, or more (own)
abbrev pub IsSpent : (spent : Option ℕ) → List Answered → (steps : ℕ) → Type 0
IsSpent None answers steps = Unit {0}
IsSpent (Some work) answers steps = work ≤ steps + length answers

-- nothing is left to do; or so much work was spent (own)
abbrev pub IsDoneWithin : (spent : Option ℕ) → List Answered → (steps : ℕ) → (written : List ℕ) → (again : List Item) → Type 0
IsDoneWithin None answers steps written again = IsDoneOpened answers written again
IsDoneWithin (Some work) answers steps written again = work ≤ steps + length answers

-- One sheet was planned, and so was each body of its opened blocks, and all of it is read back: a plan leads from `old` to `new`, and
-- one from each body to one of `bodies`; the text of `new` with these bodies is read as `again`. The same blocks are opened there,
-- and nothing is left to do in it nor in them, or so much work was spent.
pub record IsPlannedWithin (spent : Option ℕ) (answers : List Answered) (read : List ℕ) (old : List Item) (written : List ℕ) (again : List Item) : Type 0 where
  pub new : List Item
  pub steps : ℕ
  pub plan : IsPlanWithin spent answers read steps old new
  pub bodies : List SheetParts
  pub body_steps : ℕ
  pub body_plans : AreBodyPlansWithin spent answers read (opened_of old read) body_steps bodies
  pub printed_is : written ≡ printed_with read (opened_of old read) bodies new
  pub same : AreOpenedAgain read (opened_of new read) bodies new written (opened_of again written) again
  pub done : IsDoneWithin spent answers (steps + body_steps) written again

-- The bytes that were read are the sheet `old`, those that were written the sheet `again`, to which plans of the sheet and of the
-- bodies of its opened blocks lead. What is written prints as itself, and is no more than what was read. What is kept as it
-- stands, also inside opened blocks, says the same in both sheets; so a scene of the one is a scene of the other, and in each of
-- them both have the same winners.
pub record IsMergedWithin (spent : Option ℕ) (answers : List Answered) (read written : List ℕ) : Type 0 where
  pub old : List Item
  pub again : List Item
  pub old_read : sheet_of read ≡ Ok old
  pub again_read : sheet_of written ≡ Ok again
  pub planned : IsPlannedWithin spent answers read old written again
  pub stays : printed_opened again written ≡ written
  pub no_longer : length written ≤ length read
  pub same_kept : opened_content read (opened_of old read) old ≡ opened_content written (opened_of again written) again
  pub same_scenes : (scene : List KeptScene) → IsSceneOf (opened_of old read) old scene ↔ IsSceneOf (opened_of again written) again scene
  pub winners : HaveSameWinnersOpened read old written again

-- the same, where nothing is left to do
abbrev pub IsMergedOpened : List Answered → List ℕ → List ℕ → Type 0
IsMergedOpened = IsMergedWithin None

-- What plans by true answers of a sheet and of its opened bodies lead to is written as a merged sheet, also where so much work was spent.
abbrev pub PlannedIsMergedOpened : Type 0
PlannedIsMergedOpened = (spent : Option ℕ) (answers : List Answered) → AreTrue answers → (read : List ℕ) (steps body_steps : ℕ) (old new : List Item) (bodies : List SheetParts) →
    sheet_of read ≡ Ok old → IsPlanWithin spent answers read steps old new → AreBodyPlansWithin spent answers read (opened_of old read) body_steps bodies → IsSpent spent answers (steps + body_steps) →
    IsMergedWithin spent answers read (printed_with read (opened_of old read) bodies new)

-- What plans of opened bodies lead to may be printed inside their blocks.
abbrev pub PlannedBodiesAreSound : Type 0
PlannedBodiesAreSound = (spent : Option ℕ) (answers : List Answered) (source : List ℕ) (items : List Item) (steps : ℕ) (bodies : List SheetParts) →
    AreBodyPlansWithin spent answers source (opened_of items source) steps bodies → AllZip (IsSoundBody source) (opened_of items source) bodies
