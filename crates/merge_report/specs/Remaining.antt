-- The steps of a sheet that still save something, with what blocks each of them (own).
use Rattle.std.specs.Prelude.{◌≡◌, ℕ, List, [], ◌∷◌, ◌++◌, Option, Some, None}
use Rattle.std.specs.List.{AllZip}
use Rattle.css_model.specs.declared.sheet.Item.{Item}
use Rattle.css_model.specs.Text.Source.{text_at}
use Rattle.media_groups.specs.declared.media.Media.{Media}
use Rattle.media_groups.specs.Opened.{opened_of}
use Rattle.merge_plan.specs.Blocked.{BlockedStep, IsCauseOf}
use Rattle.overlap.specs.PairsParts.{Answered}
use Rattle.step_candidates.specs.Saving.{AreSavingSteps}
use Rattle.step_laws.specs.declared.cause.BlockCause.{BlockCause}
use Rattle.step_laws.specs.declared.step.Step.{Step}

-- a step, of the sheet itself or of the body of the opened block that is the item of this number, with what blocks it (own)
abbrev pub Entry : Type 0
Entry = Option ℕ × Step × BlockCause

-- ---- One step

-- what was found of a step, of the sheet itself or of the body of this opened block (own)
abbrev pub told_in : Option ℕ → BlockedStep → Entry
told_in block found = (block, found.0, found.1)

-- an entry tells of this step, and what blocks it (own)
pub record IsEntryOf (answers : List Answered) (items : List Item) (block : Option ℕ) (k : Step) (entry : Entry) : Type 0 where
  pub cause : BlockCause
  pub entry_is : entry ≡ (block, k, cause)
  pub cause_is : IsCauseOf answers items k cause

-- ---- All steps

-- Of all steps of a sheet those that still save something, in their order, each with its cause (own).
abbrev pub AreRemaining : List Answered → List ℕ → List Item → Option ℕ → List Entry → Type 0
AreRemaining answers source items block found = (list : List Step) × AreSavingSteps source items list × AllZip (IsEntryOf answers items block) list found

-- ---- All steps of a sheet and of its opened blocks

-- those of the bodies of these blocks, each by its own bytes, one block after the other (own)
abbrev pub AreRemainingInside : List Answered → List ℕ → List Media → List Entry → Type 0
AreRemainingInside answers source [] found = found ≡ []
AreRemainingInside answers source (m ∷ media) found =
    (first : List Entry) × (more : List Entry) × (found ≡ first ++ more)
    × AreRemaining answers (text_at source m.body) m.sheet.items (Some m.item) first × AreRemainingInside answers source media more

-- Those of a sheet, and then those of the bodies of its opened blocks (own).
pub record AreRemainingOpened (answers : List Answered) (source : List ℕ) (items : List Item) (found : List Entry) : Type 0 where
  pub outside : List Entry
  pub inside : List Entry
  pub found_is : found ≡ outside ++ inside
  pub are_outside : AreRemaining answers source items None outside
  pub are_inside : AreRemainingInside answers source (opened_of items source) inside
