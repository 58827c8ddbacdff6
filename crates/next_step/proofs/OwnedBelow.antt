-- An item that was created before all below it owns no step with one of these.
use Rattle.std.proofs.Common.{◌≡◌, ℕ, ◌<◌, ◌≤◌, Some, length, sym, ap, subst, inl, inr, ◌∙◌, arith}
use Rattle.std.specs.Prelude.{slice_get, slice_index}
use Rattle.std.proofs.lemmas.Option.{slice_get_within}
use Rattle.css_model.specs.declared.sheet.Item.TheVariants.{Rule}
use Rattle.css_model.specs.Sheets.RuleParts.{RuleParts}
use Rattle.pending_laws.specs.ItemIds.{owner}
use Rattle.pending_laws.specs.Scopes.{IsInScope}
use Rattle.step_queue.specs.declared.candidate.Scope as coded
use Rattle.step_queue.specs.declared.candidate.Scope.TheVariants as scopes
use Rattle.step_queue.specs.Told.{scope_told}
use Rattle.indexed_sheet.specs.declared.marks.Mark.{Mark}
use Rattle.indexed_sheet.specs.MarkList.{AreMarks, IsOldestBelow, item_ids_of, order_keys_of}
use Rattle.step_laws.specs.declared.step.Step.{Step}
use Rattle.step_laws.specs.Steps.{first_item, last_item}
use Rattle.step_savings.proofs.ForCallers.{first_rule, last_rule}
use Rattle.next_step.specs.Looking.{FoundParts, IsWith}
use Rattle.next_step.specs.Viewed.{CoversIn, IsFocus}
use Rattle.next_step.specs.declared.view.Focus.{Focus}
use Rattle.next_step.specs.declared.view.View.{View}
use Rattle.next_step.proofs.Owned.{later_most, order_of}
use Rattle.next_step.proofs.StepParts.{order_key_at}
use Rattle.next_step.proofs.Telling.{item_id_at, in_order, order_key_index, mark_there}
use Rattle.plan_laws.specs.Barrier.Renumbering.{IsOfTwo}

module _ (v : View) (o : Focus) (is_focus : IsFocus v o) (found : FoundParts) (are : AreMarks v.indexed.now.marks v.indexed.now.next) (beside : length v.indexed.now.marks ≡ length v.indexed.now.items)
    (scope : v.after.now.scope ≡ scopes.Owned) (oldest : IsOldestBelow v.indexed.now.marks o.number) where
  -- each step of two items whose upper one is this one
  pub none_below : (k : Step) → IsOfTwo k → first_item k ≡ o.number → CoversIn v found k
  none_below k two first e n is saves some looked later =
      let upper = first_rule v.indexed.now.items k (e, is) in
      let lower = last_rule v.indexed.now.items k (e, is) in
      let own : (m : Mark) × (slice_get v.indexed.now.marks (first_item k) ≡ Some m) = there (first_item k) upper.0 upper.1 in
      let other : (m : Mark) × (slice_get v.indexed.now.marks (last_item k) ≡ Some m) = there (last_item k) lower.0 lower.1 in
      let below : o.number < last_item k = subst (λ (x : ℕ). x < last_item k) first (order_of v.indexed.now.items k e two is) in
      let own_at : slice_get v.indexed.now.marks o.number ≡ Some own.0 = ap (slice_get v.indexed.now.marks) (sym first) ∙ own.1 in
      let older : own.0.item_id < other.0.item_id = oldest (last_item k) own.0 other.0 below own_at other.1 in
      let owner_is : v.after.now.owner ≡ slice_index (item_ids_of v.indexed.now.marks) (owner (item_ids_of v.indexed.now.marks) k) = subst (λ (s : coded.Scope). IsInScope (item_ids_of v.indexed.now.marks) (scope_told s) v.after.now.owner k) scope looked.0 in
      let most : slice_index (item_ids_of v.indexed.now.marks) (last_item k) ≤ slice_index (item_ids_of v.indexed.now.marks) (owner (item_ids_of v.indexed.now.marks) k) = (later_most (item_ids_of v.indexed.now.marks) (first_item k) (last_item k)).1 in
      let a : slice_index (item_ids_of v.indexed.now.marks) o.number ≡ own.0.item_id = item_id_at v.indexed.now.marks o.number own.0 own_at in
      let b : slice_index (item_ids_of v.indexed.now.marks) (last_item k) ≡ other.0.item_id = item_id_at v.indexed.now.marks (last_item k) other.0 other.1 in
      absurd (omega (arith, older, owner_is, most, a, b, is_focus.owned))
    where
      there : (x : ℕ) (r : RuleParts) → slice_get v.indexed.now.items x ≡ Some (Rule r) → (m : Mark) × (slice_get v.indexed.now.marks x ≡ Some m)
      there x r at = mark_there v.indexed.now.marks x (subst (λ (c : ℕ). x < c) (sym beside) (slice_get_within v.indexed.now.items x (Rule r) at))

  -- each step with an item whose order key is above its own
  pub none_with : (order_key : ℕ) → o.order_key < order_key → (k : Step) → IsWith v.indexed.now o.number order_key k → CoversIn v found k
  none_with order_key less k w e n is saves some looked later = elim w.items_are [
    | inr both ↦ none_below k w.of_two both.0 e n is saves some looked later
    | inl both ↦ (
        let ordered : first_item k < last_item k = order_of v.indexed.now.items k e w.of_two is in
        let above : w.other < o.number = (let f : first_item k ≡ w.other = both.0 in let l : last_item k ≡ o.number = both.1 in omega (arith, ordered, f, l)) in
        let before : w.mark.order_key < w.own.order_key = in_order (λ (m n : Mark). m.order_key < n.order_key) v.indexed.now.marks are.ascend w.other o.number w.mark w.own above w.mark_at w.own_at in
        let own_is : slice_index (order_keys_of v.indexed.now.marks) o.number ≡ w.own.order_key = order_key_at v.indexed.now.marks o.number w.own w.own_at in
        let order_key_is : w.mark.order_key ≡ order_key = w.order_key_is in
        let named : slice_index (order_keys_of v.indexed.now.marks) o.number ≡ o.order_key = order_key_index v.indexed.now.marks o.number o.order_key is_focus.order_key in
        absurd (omega (arith, before, own_is, order_key_is, named, less)))
  ]
