-- What is known of a step while a sheet is planned.
use Rattle.std.specs.Prelude.{ℕ, ◌<◌, ◌≤◌, List}
use Rattle.css_model.specs.declared.sheet.Item.{Item}
use Rattle.order_laws.specs.Edits.{Edit}
use Rattle.step_laws.specs.declared.step.Step.{Step}
use Rattle.step_laws.specs.Sizes.{Saves}
use Rattle.step_laws.specs.Steps.{IsStep}

-- A step of a sheet saves so many bytes, or none where the number is 0.
abbrev pub IsSaving : List ℕ → List Item → Step → ℕ → Type 0
IsSaving source items k n = (e : Edit) → IsStep items k e → (0 < n → Saves source items e n) × ((m : ℕ) → Saves source items e m → m ≤ n)
