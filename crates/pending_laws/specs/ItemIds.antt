-- Item ids: a number beside each item of a sheet, which tell items apart while they come and go.
use Rattle.std.specs.Prelude.{◌≡◌, ◌≢◌, ◌⊎◌, ℕ, ◌<◌, ◌≤◌, nat_lt, if◌then◌else◌, List, Some, length, slice_get, slice_index}
use Rattle.std.specs.List.{All, AllPairs}
use Rattle.css_model.specs.declared.sheet.Item.{Item}
use Rattle.order_laws.specs.Edits.{Edit, edited}
use Rattle.step_laws.specs.declared.step.Step.{Step}
use Rattle.step_laws.specs.Steps.{IsStep, first_item, last_item}
use Rattle.plan_laws.specs.Barrier.Renumbering.{Leaves, new_number, renumbered, IsOfOthers}
use Rattle.plan_laws.specs.Barrier.SideBySide.{HasCome}

-- one item id for each item, no two alike, each below the next one
pub record AreItemIds (items : List Item) (item_ids : List ℕ) (next : ℕ) : Type 0 where
  pub beside : length item_ids ≡ length items
  pub differ : AllPairs (λ b c. b ≢ c) item_ids
  pub past : All (λ b. b < next) item_ids

-- After an edit each item that it left has its item id, and each other one was created from `next` on.
pub record AreCreatedBehind (items : List Item) (d : Edit) (item_ids item_ids' : List ℕ) (next : ℕ) : Type 0 where
  pub beside : length item_ids' ≡ length (edited d items)
  pub kept : (n b : ℕ) → Leaves d n → slice_get item_ids n ≡ Some b → slice_get item_ids' (new_number d items n) ≡ Some b
  pub created : (m b : ℕ) → slice_get item_ids' m ≡ Some b → (next ≤ b) ⊎ HasCome d items m

-- of two items the one that was created later
abbrev pub later_created : List ℕ → ℕ → ℕ → ℕ
later_created item_ids x y = if nat_lt (slice_index item_ids x) (slice_index item_ids y) then y else x

-- the owner of a step: of its two items the one that was created later, of a cut its rule
abbrev pub owner : List ℕ → Step → ℕ
owner item_ids k = later_created item_ids (first_item k) (last_item k)

-- A step of items that an edit left has the same owner, at its new number.
abbrev pub OwnersStay : Type 0
OwnersStay = (items : List Item) (d : Edit) (item_ids item_ids' : List ℕ) (next : ℕ) → AreItemIds items item_ids next → AreCreatedBehind items d item_ids item_ids' next →
    (k : Step) (e : Edit) → IsStep items k e → IsOfOthers d k → owner item_ids' (renumbered (new_number d items) k) ≡ new_number d items (owner item_ids k)

-- Where the owner of a step after an edit was created before it, the step is of items that the edit left.
abbrev pub OldOwnersHaveCome : Type 0
OldOwnersHaveCome = (items : List Item) (d : Edit) (item_ids item_ids' : List ℕ) (next : ℕ) → AreCreatedBehind items d item_ids item_ids' next →
    (k' : Step) (e' : Edit) → IsStep (edited d items) k' e' → slice_index item_ids' (owner item_ids' k') < next →
    HasCome d items (first_item k') × HasCome d items (last_item k')

-- An item after an edit with the item id of one before it is that one, which was left.
abbrev pub ItemIdsTellItems : Type 0
ItemIdsTellItems = (items : List Item) (d : Edit) (item_ids item_ids' : List ℕ) (next : ℕ) → AreItemIds items item_ids next → AreCreatedBehind items d item_ids item_ids' next →
    (m n b : ℕ) → slice_get item_ids n ≡ Some b → slice_get item_ids' m ≡ Some b → Leaves d n × (new_number d items n ≡ m)
