-- Steps of a sheet after another one, which were steps of it before.
use Rattle.std.specs.Prelude.{◌≡◌, ◌↔◌, ℕ, ◌<◌, List, length}
use Rattle.std.specs.List.{remove}
use Rattle.css_model.specs.declared.sheet.Item.{Item}
use Rattle.css_model.specs.Cascade.Order.{Pair, HasPair}
use Rattle.css_model.specs.Sheets.Sound.{IsSound}
use Rattle.order_laws.specs.Edits.{Edit, edited}
use Rattle.step_laws.specs.declared.step.Step.{Step}
use Rattle.step_laws.specs.Sizes.{Saves}
use Rattle.step_laws.specs.Steps.{IsStep, first_item, last_item}
use Rattle.plan_laws.specs.Barrier.Hindering.{HasRoom}
use Rattle.plan_laws.specs.Barrier.Renumbering.{Leaves, new_number, renumbered, renumbered_edit, IsOfOthers, IsOfTwo}
use Rattle.plan_laws.specs.Barrier.SideBySide.{HasCome}

-- No step puts a pair into the items beside one that it left, if none of them had the pair before.
abbrev pub NoStepAddsPairs : Type 0
NoStepAddsPairs = (items : List Item) (j : Step) (d : Edit) → IsStep items j d → (n : ℕ) → Leaves d n → n < length items → (p : Pair) →
    HasPair (remove (edited d items) (new_number d items n)) p → HasPair (remove items n) p

-- A step after an edit was one of the sheet before, of items that the edit left, and saved the same.
pub record HasBeen (source : List ℕ) (items : List Item) (d : Edit) (k' : Step) (e' : Edit) : Type 0 where
  pub step : Step
  pub edit : Edit
  pub is_step : IsStep items step edit
  pub others : IsOfOthers d step
  pub step_is : k' ≡ renumbered (new_number d items) step
  pub edit_is : e' ≡ renumbered_edit (new_number d items) edit
  pub saves : (n : ℕ) → Saves source items edit n ↔ Saves source (edited d items) e' n

-- A cut after a step, of a rule that the step left, was one of the sheet before.
abbrev pub CutsHaveBeen : Type 0
CutsHaveBeen = (source : List ℕ) (items : List Item) (j : Step) (d : Edit) (k' : Step) (e' : Edit) → IsStep items j d → IsSound source items →
    (IsOfTwo k' → ⊥) → IsStep (edited d items) k' e' → HasCome d items (first_item k') → HasBeen source items d k' e'

-- Each step of items that a step left was one of the sheet before.
abbrev pub StepsHaveBeen : Type 0
StepsHaveBeen = (source : List ℕ) (items : List Item) (j : Step) (d : Edit) (k' : Step) (e' : Edit) → IsStep items j d → IsSound source items → HasRoom items →
    IsStep (edited d items) k' e' → HasCome d items (first_item k') → HasCome d items (last_item k') → HasBeen source items d k' e'
