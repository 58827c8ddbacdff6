use Rattle.std.proofs.Common.{◌≡◌, subst}
use Rattle.pending_laws.specs.declared.way.Way.{Way}
use Rattle.pending_laws.specs.declared.way.Way.TheVariants.{Up, Down}
use Rattle.step_queue.specs.declared.candidate.Scope.TheVariants.{Ups, Downs}
use Rattle.step_queue.specs.BarrierParts.{barriers_on, BarrierParts}
use Rattle.planner_state.proofs.TakenDown.{all_stay, both_stay, less_stay}
use Rattle.planner_state.proofs.barriers.take_down_of.Goals as goal
use Rattle.planner_state.specs.Barriers.{IsOfOther, SomeStay}

pub returns-in-Some-Up : goal.returns-in-Some-Up
returns-in-Some-Up c =
    let old : BarrierParts = record { ups = c.barriers.inside.ups.items; downs = c.barriers.inside.downs.items } in
    let new : BarrierParts = record { ups = c.take_down.new.barriers.items; downs = c.barriers.inside.downs.items } in
    let only : c.args.candidate.now.scope ≡ Downs → ⊥ = (λ same. let e = c.in-Some-Up.ensures.downs same in let f = c.in-Some-Up.field-0-is in absurd (cc)) in
    subst (λ (w : BarrierParts). (way : Way) → SomeStay (barriers_on way w) (barriers_on way new) (IsOfOther way c.args.candidate.now)) c.barriers.view_is
    (both_stay old new (λ way. IsOfOther way c.args.candidate.now)
    (less_stay old.ups new.ups (λ b order_key. c.args.candidate.now.owner ≡ b → ⊥) (IsOfOther Up c.args.candidate.now) (λ b order_key other same. other) c.take_down.ensures)
    (all_stay old.downs (IsOfOther Down c.args.candidate.now) (λ b order_key same. absurd (only same))))

pub returns-in-Some-Down : goal.returns-in-Some-Down
returns-in-Some-Down c =
    let old : BarrierParts = record { ups = c.barriers.inside.ups.items; downs = c.barriers.inside.downs.items } in
    let new : BarrierParts = record { ups = c.barriers.inside.ups.items; downs = c.take_down-in-Some-Down.new.barriers.items } in
    let only : c.args.candidate.now.scope ≡ Ups → ⊥ = (λ same. let e = c.in-Some-Down.ensures.ups same in let f = c.in-Some-Down.field-0-is in absurd (cc)) in
    subst (λ (w : BarrierParts). (way : Way) → SomeStay (barriers_on way w) (barriers_on way new) (IsOfOther way c.args.candidate.now)) c.barriers.view_is
    (both_stay old new (λ way. IsOfOther way c.args.candidate.now)
    (all_stay old.ups (IsOfOther Up c.args.candidate.now) (λ b order_key same. absurd (only same)))
    (less_stay old.downs new.downs (λ b order_key. c.args.candidate.now.owner ≡ b → ⊥) (IsOfOther Down c.args.candidate.now) (λ b order_key other same. other) c.take_down-in-Some-Down.ensures))
