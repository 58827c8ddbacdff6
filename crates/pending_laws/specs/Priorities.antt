-- The order of priorities, and priorities that name their items by numbers beside them.
use Rattle.std.specs.Prelude.{◌≡◌, ◌≢◌, ◌⊎◌, ◌↔◌, ℕ, ◌<◌, ◌≤◌, List, length, slice_index}
use Rattle.std.specs.List.{AllPairs}
use Rattle.css_model.specs.declared.sheet.Item.{Item}
use Rattle.order_laws.specs.Edits.{Edit}
use Rattle.plan_laws.specs.Cover.{Priority, IsSooner}
use Rattle.step_laws.specs.declared.step.Step.{Step}
use Rattle.step_laws.specs.declared.step.Step.TheVariants.{CutDecl}
use Rattle.step_laws.specs.Sizes.{size, Saves}
use Rattle.step_laws.specs.Steps.{IsStep}
use Rattle.plan_laws.specs.Barrier.Hindering.{priority_of}
use Rattle.plan_laws.specs.Barrier.Renumbering.{renumbered}

-- Of two priorities one comes before the other, or they are one.
abbrev pub PrioritiesAreOrdered : Type 0
PrioritiesAreOrdered = ((t : Priority) → IsSooner t t → ⊥)
    × ((s t u : Priority) → IsSooner s t → IsSooner t u → IsSooner s u)
    × ((s t : Priority) → IsSooner s t ⊎ (s ≡ t) ⊎ IsSooner t s)

-- the priority of a step, with names in place of the numbers of its items
abbrev pub named : List ℕ → ℕ → Step → Priority
named names n k = priority_of n (renumbered (λ m. slice_index names m) k)

-- one order key for each item, greater than those before it
pub record AreOrderKeys (items : List Item) (order_keys : List ℕ) : Type 0 where
  pub beside : length order_keys ≡ length items
  pub ascend : AllPairs (λ l m. l < m) order_keys

-- Order keys tell the order of the priorities of a sheet.
abbrev pub OrderKeysTellOrder : Type 0
OrderKeysTellOrder = (items : List Item) (order_keys : List ℕ) → AreOrderKeys items order_keys → (j k : Step) (d e : Edit) → IsStep items j d → IsStep items k e →
    (m n : ℕ) → IsSooner (priority_of m j) (priority_of n k) ↔ IsSooner (named order_keys m j) (named order_keys n k)

-- Where no two names are alike, a priority by names is that of one step.
abbrev pub NamesTellSteps : Type 0
NamesTellSteps = (items : List Item) (names : List ℕ) → length names ≡ length items → AllPairs (λ x y. x ≢ y) names → (j k : Step) (d e : Edit) → IsStep items j d → IsStep items k e →
    (m n : ℕ) → named names m j ≡ named names n k → (m ≡ n) × (j ≡ k) × (d ≡ e)

-- the first of all priorities that save so much
abbrev pub first_priority : ℕ → Priority
first_priority n = priority_of n (CutDecl 0 0)

-- No step of a sheet comes before the first priority that saves as much as the sheet is long.
abbrev pub FirstPriorityIsFirst : Type 0
FirstPriorityIsFirst = (source : List ℕ) (items : List Item) (bound : ℕ) → size source items ≤ bound → (k : Step) (e : Edit) (n : ℕ) → Saves source items e n →
    (names : List ℕ) → IsSooner (named names n k) (first_priority bound) → ⊥
