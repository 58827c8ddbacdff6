use Rattle.std.proofs.Common.{◌≡◌, ◌<◌, ℕ, List, sym, ap, subst, true≢false, ◌∙◌}
use Rattle.std.specs.Prelude.{slice_get}
use Rattle.css_model.specs.declared.sheet.Item.{Item}
use Rattle.pending_laws.specs.declared.way.Way.TheVariants.{Down}
use Rattle.step_queue.specs.BarrierParts.{barriers_on}
use Rattle.queue_laws.specs.IndexedBarriers.{moves_number}
use Rattle.step_laws.specs.declared.step.Step.TheVariants.{Share}
use Rattle.next_step.proofs.SharesPast.{barred_is, none_barred, not_past}
use Rattle.next_step.proofs.barriers.is_share_past.Goals as goal

pub returns-in_default : goal.returns-in_default
returns-in_default c = (
  λ yes. absurd (true≢false (sym yes)),
  λ barred. absurd (none_barred c.args.indexed.now c.args.barriers.now c.args.upper c.args.lower
      (ap (slice_get (barriers_on Down c.args.barriers.now)) (sym c.item_id_of.ensures) ∙ sym c.barrier_down.ensures ∙ c.in_default.is) barred),
)

pub returns-then-not-is_below : goal.returns-then-not-is_below
returns-then-not-is_below c = (
  λ yes. absurd (true≢false (sym yes)),
  λ barred. absurd (not_past c.args.indexed.now c.args.barriers.now c.args.upper c.args.lower c.in-Some.barrier
      (ap (slice_get (barriers_on Down c.args.barriers.now)) (sym c.item_id_of.ensures) ∙ sym c.in-Some.ensures)
      (λ past. true≢false (sym (c.is_below.ensures.1 (past.0, subst (λ (n : ℕ). c.in-Some.barrier.order_key < n) (sym c.order_key_of.ensures) past.1)) ∙ c.if-not-is_below.true)) barred),
)

pub returns : goal.returns
returns c =
    let below = c.is_below.ensures.0 c.if-not-is_below.false in
    let is = barred_is c.args.indexed.now c.args.barriers.now c.args.upper c.args.lower c.in-Some.barrier
    (ap (slice_get (barriers_on Down c.args.barriers.now)) (sym c.item_id_of.ensures) ∙ sym c.in-Some.ensures)
    (below.0, subst (λ (n : ℕ). c.in-Some.barrier.order_key < n) c.order_key_of.ensures below.1) in
    let exact : c.shares_number.result ≡ moves_number c.args.indexed.now.items (Share c.args.upper c.args.lower) c.in-Some.barrier.decl =
    c.shares_number.ensures ∙ ap (λ (xs : List Item). moves_number xs (Share c.args.upper c.args.lower) c.in-Some.barrier.decl) c.items.ensures in
    (λ yes. is.0 (sym exact ∙ yes), λ barred. exact ∙ is.1 barred)
