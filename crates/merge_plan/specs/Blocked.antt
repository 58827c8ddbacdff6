-- The steps of a sheet that save bytes, with what blocks each of them (own).
use Rattle.std.specs.Prelude.{◌≡◌, ℕ, List}
use Rattle.std.specs.List.{AllZip, Contains}
use Rattle.css_model.specs.declared.sheet.Item.{Item}
use Rattle.order_laws.specs.Edits.{Edit, edited}
use Rattle.order_laws.specs.Reversed.{reversed}
use Rattle.overlap.specs.PairsParts.{Answered}
use Rattle.sheet_order.specs.Allowing.{IsFirst}
use Rattle.step_candidates.specs.Saving.{AreSavingSteps}
use Rattle.step_laws.specs.Free as steps
use Rattle.step_laws.specs.declared.cause.BlockCause.{BlockCause}
use Rattle.step_laws.specs.declared.step.Step.{Step}
use Rattle.step_laws.specs.Steps.{HasStep, IsStep}

-- ---- One step

-- What blocks a step is the first of what it reverses that is no pair whose selectors are answered to be apart (own).
abbrev pub IsCauseOf : List Answered → List Item → Step → BlockCause → Type 0
IsCauseOf answers items k cause = (e : Edit) → IsStep items k e → IsFirst answers (reversed items (edited e items) e.moved) cause

-- a step, with what blocks it (own)
abbrev pub BlockedStep : Type 0
BlockedStep = Step × BlockCause

-- an entry names this step, and what blocks it (own)
pub record NamesBlocked (answers : List Answered) (items : List Item) (k : Step) (entry : BlockedStep) : Type 0 where
  pub cause : BlockCause
  pub entry_is : entry ≡ (k, cause)
  pub cause_is : IsCauseOf answers items k cause

-- ---- All steps

-- these are steps of a sheet, each of them blocked (own)
abbrev pub AreBlocked : List steps.Answered → List Item → List Step → Type 0
AreBlocked answers items list = (k : Step) → Contains list k → HasStep items k × ((e : Edit) → IsStep items k e → steps.IsBlocked answers items e)

-- Of all steps of a sheet those that save bytes, in their order, each with its cause (own).
abbrev pub AreBlockedSteps : List Answered → List ℕ → List Item → List BlockedStep → Type 0
AreBlockedSteps answers source items found = (list : List Step) × AreSavingSteps source items list × AllZip (NamesBlocked answers items) list found
