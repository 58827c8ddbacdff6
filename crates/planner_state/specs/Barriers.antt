-- Barriers that are taken down (own).
use Rattle.std.specs.Prelude.{◌≡◌, ◌≢◌, ℕ, ◌<◌, List, Some, length, slice_get}
use Rattle.pending_laws.specs.declared.way.Way.{Way}
use Rattle.pending_laws.specs.declared.way.Way.TheVariants.{Up, Down}
use Rattle.step_queue.specs.declared.barriers.Barrier.{Barrier}
use Rattle.step_queue.specs.declared.candidate.Candidate.{Candidate}
use Rattle.step_queue.specs.declared.candidate.Scope.{Scope}
use Rattle.step_queue.specs.declared.candidate.Scope.TheVariants.{Ups, Downs}
use Rattle.indexed_sheet.specs.declared.marks.Mark.{Mark}
use Rattle.indexed_sheet.specs.MarkList.{order_keys_of}
use Rattle.step_laws.specs.declared.step.Step.{Step}
use Rattle.step_laws.specs.Steps.{first_item, last_item}

-- Of barriers some stay, for which something holds of the item id and the order key.
pub record SomeStay (old new : List Barrier) (Stays : ℕ → ℕ → Type 0) : Type 0 where
  pub long : length new ≡ length old
  pub left : (item_id : ℕ) (stop : Barrier) → slice_get new item_id ≡ Some stop → 0 < stop.order_key → (slice_get old item_id ≡ Some stop) × Stays item_id stop.order_key

-- the scope in the code of all steps in which pairs of an item move in a way
abbrev pub moves_scope : Way → Scope
moves_scope Up = Ups
moves_scope Down = Downs

-- a barrier in a way is not that of the item whose steps in that way a candidate stands for
abbrev pub IsOfOther : Way → Candidate → ℕ → ℕ → Type 0
IsOfOther way candidate item_id order_key = candidate.scope ≡ moves_scope way → candidate.owner ≢ item_id

-- a barrier does not stand at one of these order keys
abbrev pub IsFromOther : (first last item_id order_key : ℕ) → Type 0
IsFromOther first last item_id order_key = (first ≢ order_key) × (last ≢ order_key)

-- nor at the first or the last item of a step
abbrev pub IsFromOtherItem : List Mark → Step → (item_id order_key : ℕ) → Type 0
IsFromOtherItem marks k item_id order_key = (n : ℕ) → slice_get (order_keys_of marks) n ≡ Some order_key → (first_item k ≡ n → ⊥) × (last_item k ≡ n → ⊥)
