-- Steps that save something are found, while the rules of a sheet are walked over (own).
use Rattle.std.specs.Prelude.{◌≡◌, ◌⊎◌, ℕ, ◌<◌, List}
use Rattle.std.specs.List.{Contains}
use Rattle.css_model.specs.declared.sheet.Item.{Item}
use Rattle.step_candidates.specs.Saving.{IsSavingStep}
use Rattle.step_laws.specs.declared.step.Step.{Step}
use Rattle.step_laws.specs.declared.step.Step.TheVariants.{CutDecl, CutSel}
use Rattle.step_laws.specs.Steps.{first_item, last_item}

-- To the steps that were found come all of these that save something, and none that saves nothing.
pub record Adds (source : List ℕ) (items : List Item) (these : Step → Type 0) (old new : List Step) : Type 0 where
  pub stay : (k : Step) → Contains old k → Contains new k
  pub all : (k : Step) → these k → IsSavingStep source items k → Contains new k
  pub only : (k : Step) → Contains new k → Contains old k ⊎ IsSavingStep source items k

-- ---- Which steps

-- a cut of one of the first declarations of a rule, or selectors
abbrev pub IsDeclCut : ℕ → ℕ → Step → Type 0
IsDeclCut number count k = (i : ℕ) × (i < count) × (k ≡ CutDecl number i)

abbrev pub IsSelectorCut : ℕ → ℕ → Step → Type 0
IsSelectorCut number count k = (i : ℕ) × (i < count) × (k ≡ CutSel number i)

-- a step of these two items; of one item twice it is a cut
abbrev pub IsOf : ℕ → ℕ → Step → Type 0
IsOf first last k = (first_item k ≡ first) × (last_item k ≡ last)

-- a step of an item and another one below it
abbrev pub IsBelow : ℕ → ℕ → Step → Type 0
IsBelow number other k = IsOf number other k × (number < other)

-- a step of an item and one of these below it
abbrev pub IsWithOne : ℕ → List ℕ → Step → Type 0
IsWithOne number others k = (first_item k ≡ number) × (number < last_item k) × Contains others (last_item k)
