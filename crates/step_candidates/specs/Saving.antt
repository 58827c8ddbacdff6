-- Which steps of a sheet save something (own).
use Rattle.std.specs.Prelude.{◌↔◌, ℕ, ◌<◌, List}
use Rattle.std.specs.List.{AllPairs, Contains}
use Rattle.css_model.specs.declared.sheet.Item.{Item}
use Rattle.order_laws.specs.Edits.{Edit, edited}
use Rattle.step_laws.specs.declared.step.Step.{Step}
use Rattle.step_laws.specs.Sizes.{size}
use Rattle.step_laws.specs.Steps.{IsStep, StandsBefore}

-- a step of a sheet saves something: the items' texts become shorter
pub record IsSavingStep (source : List ℕ) (items : List Item) (k : Step) : Type 0 where
  pub edit : Edit
  pub step : IsStep items k edit
  pub shorter : size source (edited edit items) < size source items

-- a list has exactly the steps of a sheet that save something, in the order of steps
pub record AreSavingSteps (source : List ℕ) (items : List Item) (list : List Step) : Type 0 where
  pub exact : (k : Step) → Contains list k ↔ IsSavingStep source items k
  pub ascends : AllPairs StandsBefore list
