-- What is told of the text of a merged sheet.
use Rattle.std.specs.Prelude.{◌≡◌, ℕ, ◌+◌, List, Option, None, Ok}
use Rattle.css_model.specs.declared.sheet.Item.{Item}
use Rattle.css_model.specs.Sheets.Sheet.{sheet_of}
use Rattle.planner.specs.Working.{spent_of}
use Rattle.media_groups.specs.Opened.{opened_of}
use Rattle.merge_text.specs.declared.merged.MergedText.{MergedText}
use Rattle.merge_text.specs.declared.planned.Planned.{Planned}
use Rattle.opened_merge_laws.specs.Merged.{IsMergedWithin, IsSpent}
use Rattle.opened_merge_laws.specs.Plans.{AreBodyPlansWithin, IsPlanWithin}
use Rattle.opened_merge_laws.specs.Told.{IsToldWithin, items_opened}
use Rattle.step_laws.specs.Free.{Answered}

-- Plans lead from the sheet that a source is read as, and from the bodies of its opened blocks, to these sheets, by so many steps
-- together; so many items were read. The work of the plans is bounded, if there is a bound.
pub record IsPlannedFrom (work : Option ℕ) (answers : List Answered) (source : List ℕ) (p : Planned) : Type 0 where
  pub old : List Item
  pub steps : ℕ
  pub body_steps : ℕ
  pub old_read : sheet_of source ≡ Ok old
  pub opened : p.media.items ≡ opened_of old source
  pub plan : IsPlanWithin (spent_of work p.spent) answers source steps old p.sheet.items
  pub body_plans : AreBodyPlansWithin (spent_of work p.spent) answers source (opened_of old source) body_steps p.bodies.items
  pub enough : IsSpent (spent_of work p.spent) answers (steps + body_steps)
  pub counted : p.read_items ≡ items_opened old source
  pub taken_is : p.taken ≡ steps + body_steps

-- The numbers that are told of a merged text are those of it and of its source.
abbrev pub IsToldBy : (work : Option ℕ) → List Answered → List ℕ → MergedText → Type 0
IsToldBy work answers source m = IsToldWithin (spent_of work m.spent) answers source m.text.items m.read_items m.written_items m.taken

-- the same, without a bound
abbrev pub IsTold : List Answered → List ℕ → MergedText → Type 0
IsTold = IsToldBy None

-- The text is that of the merged sheet, in which nothing is left to do, or whose work was spent.
abbrev pub IsMergedBy : (work : Option ℕ) → List Answered → List ℕ → MergedText → Type 0
IsMergedBy work answers source m = IsMergedWithin (spent_of work m.spent) answers source m.text.items
