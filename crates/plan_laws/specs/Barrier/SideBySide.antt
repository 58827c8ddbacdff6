-- Steps of a sheet that are taken side by side: what one of them leaves of the other.
use Rattle.std.specs.Prelude.{◌≡◌, ◌⊎◌, ◌↔◌, ℕ, ◌<◌, ◌≤◌, List, Some, length, slice_get}
use Rattle.css_model.specs.declared.sheet.Item.{Item}
use Rattle.css_model.specs.declared.sheet.Item.TheVariants.{Rule}
use Rattle.css_model.specs.Sheets.Limits.{max_items}
use Rattle.css_model.specs.Sheets.RuleParts.{RuleParts}
use Rattle.css_model.specs.Sheets.Sound.{IsSound}
use Rattle.order_laws.specs.Edits.{Edit, edited}
use Rattle.step_laws.specs.declared.step.Step.{Step}
use Rattle.step_laws.specs.Sizes.{Saves}
use Rattle.step_laws.specs.Steps.{IsStep, first_item, last_item}
use Rattle.plan_laws.specs.Barrier.Renumbering.{Leaves, new_number, renumbered, renumbered_edit, IsOfOthers, IsOfTwo, AreSideBySide}

-- A step and a join or share that takes none of its items: their edits are side by side, where the one does
-- not take the room for one more item.
abbrev pub StepsAreSideBySide : Type 0
StepsAreSideBySide = (items : List Item) (j k : Step) (d e : Edit) → IsStep items j d → IsStep items k e → IsOfTwo k → IsOfOthers d k →
    (length (edited d items) ≤ length items) ⊎ (length (edited d items) < max_items) →
    (length (edited e items) ≤ length items) ⊎ (length (edited e items) < max_items) →
    AreSideBySide items d e

-- the item of this number behind an edit is one that it left
abbrev pub HasCome : Edit → List Item → ℕ → Type 0
HasCome d items new = (n : ℕ) × Leaves d n × (n < length items) × (new_number d items n ≡ new)

-- A join or a share, behind an edit, of two items that it left comes from one of the sheet before, where that
-- has room for one more item or the edit does not take it.
abbrev pub StepsComeBack : Type 0
StepsComeBack = (items : List Item) (d : Edit) (k' : Step) (e' : Edit) → IsOfTwo k' → (length items ≤ length (edited d items)) ⊎ (length items < max_items) →
    IsStep (edited d items) k' e' → HasCome d items (first_item k') → HasCome d items (last_item k') →
    (k : Step) × (e : Edit) × IsStep items k e × IsOfTwo k × IsOfOthers d k × (k' ≡ renumbered (new_number d items) k) × (e' ≡ renumbered_edit (new_number d items) e)

-- A step saves the same where its rules stand at other numbers of another sheet.
abbrev pub SavingsGoOn : Type 0
SavingsGoOn = (source : List ℕ) (items items' : List Item) (f : ℕ → ℕ) (k : Step) (e : Edit) (upper lower : RuleParts) → IsSound source items → IsSound source items' →
    IsStep items k e → IsStep items' (renumbered f k) (renumbered_edit f e) →
    slice_get items (first_item k) ≡ Some (Rule upper) → slice_get items (last_item k) ≡ Some (Rule lower) →
    slice_get items' (f (first_item k)) ≡ Some (Rule upper) → slice_get items' (f (last_item k)) ≡ Some (Rule lower) →
    (n : ℕ) → Saves source items e n ↔ Saves source items' (renumbered_edit f e) n
