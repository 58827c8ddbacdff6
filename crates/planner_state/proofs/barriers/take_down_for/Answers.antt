use Rattle.std.proofs.Common.{◌≡◌, ℕ, Some, ap, subst}
use Rattle.std.specs.Prelude.{slice_get}
use Rattle.pending_laws.specs.declared.way.Way.{Way}
use Rattle.step_queue.specs.BarrierParts.{barriers_on, BarrierParts}
use Rattle.indexed_sheet.specs.MarkList.{order_keys_of}
use Rattle.planner_state.proofs.TakenDown.{both_stay, outside}
use Rattle.planner_state.proofs.barriers.take_down_for.Goals as goal
use Rattle.planner_state.specs.Barriers.{SomeStay}
use Rattle.step_laws.specs.Steps.{first_item, last_item}

pub returns : goal.returns
returns c =
    let order_keys = order_keys_of c.args.indexed.now.marks in
    let first : c.items_of-first.result.0 ≡ first_item c.args.step.now = ap (λ (p : ℕ × ℕ). p.0) c.items_of-first.ensures in
    let last : c.items_of-first.result.1 ≡ last_item c.args.step.now = ap (λ (p : ℕ × ℕ). p.1) c.items_of-first.ensures in
    let first_at : slice_get order_keys (first_item c.args.step.now) ≡ Some c.order_key_of-first.result = subst (λ (n : ℕ). slice_get order_keys n ≡ Some c.order_key_of-first.result) first c.order_key_of-first.ensures in
    let last_at : slice_get order_keys (last_item c.args.step.now) ≡ Some c.order_key_of-last.result = subst (λ (n : ℕ). slice_get order_keys n ≡ Some c.order_key_of-last.result) last c.order_key_of-last.ensures in
    let old : BarrierParts = record { ups = c.barriers.inside.ups.items; downs = c.barriers.inside.downs.items } in
    let new : BarrierParts = record { ups = c.take_down_from.new.barriers.items; downs = c.take_down_from-2.new.barriers.items } in
    subst
    (λ (w : BarrierParts). (way : Way) → SomeStay (barriers_on way w) (barriers_on way new) (λ item_id order_key. (n : ℕ) → slice_get order_keys n ≡ Some order_key → (first_item c.args.step.now ≡ n → ⊥) × (last_item c.args.step.now ≡ n → ⊥)))
    c.barriers.view_is
    (both_stay old new (λ (way : Way) (item_id order_key : ℕ). (n : ℕ) → slice_get order_keys n ≡ Some order_key → (first_item c.args.step.now ≡ n → ⊥) × (last_item c.args.step.now ≡ n → ⊥))
    (outside order_keys old.ups new.ups (first_item c.args.step.now) (last_item c.args.step.now) c.order_key_of-first.result c.order_key_of-last.result first_at last_at c.take_down_from.ensures)
    (outside order_keys old.downs new.downs (first_item c.args.step.now) (last_item c.args.step.now) c.order_key_of-first.result c.order_key_of-last.result first_at last_at c.take_down_from-2.ensures))
