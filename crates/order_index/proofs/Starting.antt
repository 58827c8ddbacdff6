-- What is known when the walk begins.
use Rattle.std.proofs.Common.{◌≡◌, List, sym, ap, ap₂, ◌∙◌, subst}
use Rattle.std.specs.List.{AllByRecursion}
use Rattle.css_model.specs.declared.sheet.Item.{Item}
use Rattle.order_index.proofs.Listing.{all_moving}
use Rattle.order_index.specs.Afterwards.{edit_at}
use Rattle.order_index.specs.declared.moving.Moving.{Moving}
use Rattle.order_index.specs.Listed.{IsMoving}
use Rattle.order_index.specs.Told.{moved_by}
use Rattle.order_index.specs.Walked.{AreKnown, IsMovedBy, with_masks}
use Rattle.order_laws.specs.Edits as edits
use Rattle.order_laws.specs.Places.{ListedStandsLast}
use Rattle.order_laws.specs.Reversed.{moved_pairs}
use Rattle.selector_laws.specs.Limits.{ReadSelectorsKeepTheLimits}
use Rattle.sheet_order.proofs.ForCallers.{moved_is}
use Rattle.sheet_order.specs.Narrow.{CanBePlanned}
use Rattle.sheet_order.specs.Taking.{moved_in, moved_of}
use Rattle.step_laws.specs.declared.step.Step.{Step}
use Rattle.step_laws.specs.Steps.{IsStep}
use Rattle.window_order.specs.declared.window.Window.{Window}

pub moved_at_first : ListedStandsLast → ReadSelectorsKeepTheLimits → (items : List Item) → CanBePlanned items → (k : Step) → IsStep items k (edit_at items k) → (w : Window) (j : Step) → w.items.now ≡ items → j ≡ k → (m : Moving) →
    m.pairs.items ≡ moved_pairs items (moved_in items (moved_of k)) → AreKnown w m.pairs.items m.known.items → m.mask ≡ with_masks 0 m.pairs.items → IsMovedBy w j m
moved_at_first stands limits items planned k is w j items_is step_is m pairs known mask = record {
  pairs = pairs ∙ ap (λ (x : edits.Moved). moved_pairs items x) (moved_is items k (edit_at items k) is) ∙ ap₂ moved_by (sym items_is) (sym step_is);
  moving = subst (λ (xs : List Item). AllByRecursion (IsMoving xs j) m.pairs.items) (sym items_is)
      (subst (λ (x : Step). AllByRecursion (IsMoving items x) m.pairs.items) (sym step_is) (subst (AllByRecursion (IsMoving items k)) (sym pairs) (all_moving stands limits items planned k is)));
  known = known;
  mask = mask;
}
