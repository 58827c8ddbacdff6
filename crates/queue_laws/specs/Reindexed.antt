-- What a plan holds in code, reindexed after a step that it took (own).
use Rattle.std.specs.Prelude.{◌≡◌, ◌⊎◌, ℕ, ◌<◌, ◌≤◌, List, Some, slice_get}
use Rattle.std.specs.List.{Contains}
use Rattle.css_model.specs.declared.sheet.Item.{Item}
use Rattle.pending_laws.specs.Behind.{GoesOn}
use Rattle.pending_laws.specs.ItemIds.{AreItemIds, AreCreatedBehind}
use Rattle.pending_laws.specs.Candidates.{Candidate, PendingState, IsQueued, GoesOver, OrderKeysStay}
use Rattle.pending_laws.specs.Scopes.{Owned}
use Rattle.pending_laws.specs.Priorities.{named, AreOrderKeys, first_priority}
use Rattle.order_laws.specs.Edits.{Edit, edited}
use Rattle.step_laws.specs.declared.step.Step.{Step}
use Rattle.step_laws.specs.Sizes.{size, Saves}
use Rattle.plan_laws.specs.Barrier.Hindering.{IsUntouched, Watched}
use Rattle.plan_laws.specs.Barrier.Renumbering.{new_number, renumbered}

-- The names of the items after an edit: those that it left keep theirs, and each other item is created now.
pub record AreRenamed (items : List Item) (d : Edit) (h h' : PendingState) : Type 0 where
  pub item_ids : AreItemIds (edited d items) h'.item_ids h'.next
  pub order_keys : AreOrderKeys (edited d items) h'.order_keys
  pub created : AreCreatedBehind items d h.item_ids h'.item_ids h.next
  pub order_keys_stay : OrderKeysStay items d h.order_keys h'.order_keys
  pub later : h.next ≤ h'.next

-- What is pending is reindexed after an edit. All candidates stay queued, and one before all steps is queued for each item that
-- is created now. What is on the watch list stays so where the edit does not touch it; else its step is queued.
pub record IsReindexed (source : List ℕ) (items : List Item) (d : Edit) (bound : ℕ) (h h' : PendingState) : Type 0 where
  pub names : AreRenamed items d h h'
  pub candidates : (l : Candidate) → Contains h.candidates l → Contains h'.candidates l
  pub new : (m b : ℕ) → slice_get h'.item_ids m ≡ Some b → h.next ≤ b → Contains h'.candidates (record { priority = first_priority bound; owner = b; scope = Owned })
  pub reactivated : (a : Watched) → Contains h.watched a → (IsUntouched d a.by × Contains h'.watched a)
      ⊎ ((k : Step) (e : Edit) (n : ℕ) → GoesOn items d k e → Saves source items e n → 0 < n → a.priority ≡ named h.item_ids n k →
      IsQueued h' n (renumbered (new_number d items) k))
  pub untouched : (a : Watched) → Contains h'.watched a → Contains h.watched a × IsUntouched d a.by

-- Where what is pending is reindexed, it goes over to the sheet after the edit.
abbrev pub TakenGoesOver : Type 0
TakenGoesOver = (source : List ℕ) (items : List Item) (d : Edit) (bound saved : ℕ) (h h' : PendingState) → size source items ≤ bound → Saves source items d saved →
    IsReindexed source items d bound h h' → GoesOver source items d h h'
