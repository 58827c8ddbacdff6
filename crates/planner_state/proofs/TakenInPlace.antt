-- The indexed sheet of a plan whose sheet is taken on by a step.
use Rattle.std.proofs.Common.{◌≡◌, ◌≤◌, subst}
use Rattle.std.specs.List.{remove}
use Rattle.indexed_sheet.specs.IndexedParts.{IndexedParts}
use Rattle.indexed_sheet.specs.MarkList.{order_keys_of}
use Rattle.indexed_sheet.specs.Marking.{AreKept}
use Rattle.order_laws.specs.Edits.{Edit, edited}
use Rattle.pending_laws.specs.declared.way.Way.{Way}
use Rattle.pending_laws.specs.Ways.{IsMove, mover}
use Rattle.step_laws.specs.declared.step.Step.{Step}
use Rattle.step_laws.specs.Steps.{IsStep}

-- what a step makes of an indexed sheet
pub record IsTakenOn (old new : IndexedParts) (k : Step) : Type 0 where
  pub items : (e : Edit) → IsStep old.items k e → new.items ≡ edited e old.items
  pub marks : (e : Edit) → IsStep old.items k e → AreKept old new e
  pub order_keys : (way : Way) → IsMove way k → order_keys_of new.marks ≡ remove (order_keys_of old.marks) (mover way k)
  pub more : old.next ≤ new.next

-- the same of one that is equal to it
pub taken_on : (old other new : IndexedParts) (k : Step) → other ≡ old → IsTakenOn other new k → IsTakenOn old new k
taken_on old other new k same taken = subst (λ (b : IndexedParts). IsTakenOn b new k) same taken
