-- What is pending, reindexed behind a step, goes over.
use Rattle.std.proofs.Common.{◌≡◌, ◌⊎◌, ℕ, ◌<◌, ◌≤◌, List, Some, refl, inl, inr, arith}
use Rattle.std.specs.Prelude.{slice_get, slice_index}
use Rattle.std.specs.List.{Contains}
use Rattle.std.proofs.lemmas.Option.{slice_get-get_or}
use Rattle.css_model.specs.declared.sheet.Item.{Item}
use Rattle.pending_laws.specs.Behind.{GoesOn}
use Rattle.pending_laws.specs.ItemIds.{owner}
use Rattle.pending_laws.specs.Candidates.{PendingState, IsQueued, IsWatched, GoesOver}
use Rattle.pending_laws.specs.Scopes.{Owned}
use Rattle.pending_laws.specs.Priorities.{named, first_priority, FirstPriorityIsFirst}
use Rattle.queue_laws.specs.Reindexed.{IsReindexed}
use Rattle.queue_laws.proofs.StepNames.{owner_within}
use Rattle.order_laws.specs.Edits.{Edit, edited}
use Rattle.step_laws.specs.declared.step.Step.{Step}
use Rattle.step_laws.specs.Sizes.{size, Saves}
use Rattle.step_laws.specs.Steps.{IsStep}
use Rattle.plan_laws.specs.Barrier.Hindering.{Hindrance, IsUntouched}
use Rattle.plan_laws.specs.Barrier.Renumbering.{new_number, renumbered}

module _ (first : FirstPriorityIsFirst) (source : List ℕ) (items : List Item) (d : Edit) (bound saved : ℕ) (h h' : PendingState) (long : size source items ≤ bound) (shorter : Saves source items d saved)
    (m : IsReindexed source items d bound h h') where
  still_long : size source (edited d items) ≤ bound
  still_long = omega (arith, long, shorter)

  -- the steps of new items are queued
  made : (k' : Step) (e' : Edit) (n : ℕ) → IsStep (edited d items) k' e' → Saves source (edited d items) e' n → 0 < n → h.next ≤ slice_index h'.item_ids (owner h'.item_ids k') → IsQueued h' n k'
  made k' e' n is saves some young = (
    record { priority = first_priority bound; owner = slice_index h'.item_ids (owner h'.item_ids k'); scope = Owned },
    m.new (owner h'.item_ids k') (slice_index h'.item_ids (owner h'.item_ids k')) at young,
    inr (refl, first source (edited d items) bound still_long k' e' n saves h'.order_keys),
  )
    where
      at : slice_get h'.item_ids (owner h'.item_ids k') ≡ Some (slice_index h'.item_ids (owner h'.item_ids k'))
      at = slice_get-get_or h'.item_ids (owner h'.item_ids k') 0 (let b = m.names.item_ids.beside in let w = owner_within (edited d items) h'.item_ids k' e' is in omega (arith, b, w))

  watched : (k : Step) (e : Edit) (n : ℕ) (by : Hindrance) → GoesOn items d k e → Saves source items e n → 0 < n → IsWatched h n k by →
      Contains h'.watched (record { priority = named h.item_ids n k; by = by }) ⊎ IsQueued h' n (renumbered (new_number d items) k)
  watched k e n by on saves some among = which (m.reactivated (record { priority = named h.item_ids n k; by = by }) among)
    where
      which : (IsUntouched d by × Contains h'.watched (record { priority = named h.item_ids n k; by = by }))
          ⊎ ((k' : Step) (e' : Edit) (i : ℕ) → GoesOn items d k' e' → Saves source items e' i → 0 < i → named h.item_ids n k ≡ named h.item_ids i k' → IsQueued h' i (renumbered (new_number d items) k')) →
          Contains h'.watched (record { priority = named h.item_ids n k; by = by }) ⊎ IsQueued h' n (renumbered (new_number d items) k)
      which (inl stays) = inl stays.1
      which (inr reactivates) = inr (reactivates k e n on saves some refl)

  pub over : GoesOver source items d h h'
  over = record {
    item_ids = m.names.item_ids;
    order_keys = m.names.order_keys;
    created = m.names.created;
    order_keys_stay = m.names.order_keys_stay;
    later = m.names.later;
    candidates = m.candidates;
    made = made;
    watched = watched;
    untouched = m.untouched;
  }
