-- Shares past barriers.
use Rattle.std.proofs.Common.{◌≡◌, ◌↔◌, ℕ, ◌<◌, true, Option, Some, None, sym, ◌∙◌, subst}
use Rattle.std.specs.Prelude.{slice_get, slice_index}
use Rattle.cascade_laws.proofs.ForCallers.{some-same}
use Rattle.pending_laws.specs.declared.way.Way.TheVariants.{Down, Up}
use Rattle.queue_laws.specs.IndexedBarriers.{moves_number, IsBarred, IsBarredOn}
use Rattle.step_queue.specs.declared.barriers.Barrier.{Barrier}
use Rattle.step_queue.specs.BarrierParts.{barriers_on, BarrierParts}
use Rattle.indexed_sheet.specs.IndexedParts.{IndexedParts}
use Rattle.indexed_sheet.specs.MarkList.{item_ids_of, order_keys_of}
use Rattle.step_laws.specs.declared.step.Step.{Step}
use Rattle.step_laws.specs.declared.step.Step.TheVariants.{Share}

module _ (b : IndexedParts) (barriers : BarrierParts) (upper lower : ℕ) where
  -- the barrier of the upper item, if there is one
  abbrev found : Option Barrier
  found = slice_get (barriers_on Down barriers) (slice_index (item_ids_of b.marks) upper)

  -- the lower item is past a barrier
  abbrev IsPast : Barrier → Type 0
  IsPast stop = (0 < stop.order_key) × (stop.order_key < slice_index (order_keys_of b.marks) lower)

  abbrev IsShareBarred : Type 0
  IsShareBarred = IsBarredOn b barriers Down (Share upper lower)

  pub none_barred : found ≡ None → IsShareBarred → ⊥
  none_barred none barred = let e : Some barred.1.0 ≡ None = sym barred.1.1 ∙ none in cc

  pub not_past : (stop : Barrier) → found ≡ Some stop → (IsPast stop → ⊥) → IsShareBarred → ⊥
  not_past stop at not barred = not (subst IsPast (some-same (sym barred.1.1 ∙ at)) (barred.1.2, barred.1.3))

  pub barred_is : (stop : Barrier) → found ≡ Some stop → IsPast stop → (moves_number b.items (Share upper lower) stop.decl ≡ true) ↔ IsShareBarred
  barred_is stop at past = (
    λ moves. (tt, (stop, at, past.0, past.1), moves),
    λ barred. subst (λ (x : Barrier). moves_number b.items (Share upper lower) x.decl ≡ true) (some-same (sym barred.1.1 ∙ at)) barred.2,
  )

  -- such a share is barred, and no other way is there for it
  pub share_is_barred : (k : Step) → k ≡ Share upper lower → IsShareBarred ↔ IsBarred b barriers k
  share_is_barred k is = (λ barred. subst (IsBarred b barriers) (sym is) (Down, barred), λ barred. which (subst (IsBarred b barriers) is barred))
    where
      which : IsBarred b barriers (Share upper lower) → IsShareBarred
      which (Up, barred) = absurd barred.0
      which (Down, barred) = barred
