use Rattle.std.proofs.Common.{◌≡◌, ◌<◌, Bool, List, ℕ, ap, refl, sym, ◌∙◌, subst}
use Rattle.std.specs.Prelude.{IfSome}
use Rattle.pending_laws.specs.Candidates as pending
use Rattle.indexed_sheet.specs.Marking.{HasOrderKeyFor}
use Rattle.rule_tables.specs.Tables.{TableParts}
use Rattle.step_laws.specs.declared.step.Step.{Step}
use Rattle.step_laws.specs.Steps.{HasStep}
use Rattle.step_queue.specs.BarrierParts.{BarrierParts}
use Rattle.step_queue.specs.declared.watch_list.Entry.{Entry}
use Rattle.step_queue.specs.RuleWeights.{WeightParts}
use Rattle.planner_state.specs.Enqueuing.{AreEnqueued, StayBefore}
use Rattle.planner_state.specs.PlanParts.{PlanParts}
use Rattle.planner_state.specs.State.{IsState}
use Rattle.planner_state.specs.Weighing.{AreAtMost, AreWeighable, IsWeighedAt, MakesAtMost, Stay}
use Rattle.planner_state.proofs.Heavier.{weighable_after}
use Rattle.planner_state.proofs.Reindexed.{covered_behind}
use Rattle.planner_state.proofs.Taken.{taken_state}
use Rattle.planner_state.proofs.TakenInPlace.{IsTakenOn, taken_on}
use Rattle.planner_state.proofs.WeighedBehind.{known_at_most, weighed_behind}
use Rattle.planner_state.proofs.plan.Plan.take_in_place.Goals as goal

pub with_step-requires-clause-order_key : goal.with_step-requires-clause-order_key
with_step-requires-clause-order_key c = subst (λ (p : PlanParts). HasOrderKeyFor p.indexed.marks c.args.step.now) (sym c.in_ok-put.ensures.same) c.requires.order_key

pub put_created_by-requires-clause-weighable : goal.put_created_by-requires-clause-weighable
put_created_by-requires-clause-weighable c =
    let old : PlanParts = c.args.self in
    let plan : PlanParts = c.in_ok-plan.plan in
    let step : Step = c.args.step.now in
    let has : HasStep old.indexed.items step = c.requires.is_step in
    let same : c.prepare.new.self.indexed ≡ old.indexed = ap (λ (p : PlanParts). p.indexed) c.in_ok-put.ensures.same in
    let taken : IsTakenOn old.indexed plan.indexed step = taken_on old.indexed c.prepare.new.self.indexed plan.indexed step same
    (record { items = c.in_ok-plan.ensures.items; marks = c.in_ok-plan.ensures.marks; order_keys = c.in_ok-plan.ensures.order_keys; more = c.in_ok-plan.ensures.more }) in
    subst (AreWeighable c.args.source.now) (sym (taken.items has.0 has.1))
    (weighable_after c.steps_make_of.ensures c.each_is_made_of_itself.ensures c.args.source.now old.indexed.items c.requires.indexed.plannable step has.0 has.1)

pub put_created_by-requires-clause-known : goal.put_created_by-requires-clause-known
put_created_by-requires-clause-known c =
    let old : PlanParts = c.args.self in
    let plan : PlanParts = c.in_ok-plan.plan in
    let source : List ℕ = c.args.source.now in
    let step : Step = c.args.step.now in
    let has : HasStep old.indexed.items step = c.requires.is_step in
    let same : c.prepare.new.self.indexed ≡ old.indexed = ap (λ (p : PlanParts). p.indexed) c.in_ok-put.ensures.same in
    let next : c.next-next.result ≡ old.indexed.next = c.next-next.ensures ∙ ap (λ (p : PlanParts). p.indexed.next) (c.self-2.view_is ∙ c.in_ok-put.ensures.same) in
    let taken : IsTakenOn old.indexed plan.indexed step = taken_on old.indexed c.prepare.new.self.indexed plan.indexed step same
    (record { items = c.in_ok-plan.ensures.items; marks = c.in_ok-plan.ensures.marks; order_keys = c.in_ok-plan.ensures.order_keys; more = c.in_ok-plan.ensures.more }) in
    let can : AreWeighable source plan.indexed.items = subst (AreWeighable source) (sym (taken.items has.0 has.1))
    (weighable_after c.steps_make_of.ensures c.each_is_made_of_itself.ensures source old.indexed.items c.requires.indexed.plannable step has.0 has.1) in
    let makes : IfSome c.made_weight-made.result (MakesAtMost old.indexed old.weights step) = subst (λ (p : PlanParts). IfSome c.made_weight-made.result (MakesAtMost p.indexed p.weights step)) c.self.view_is c.made_weight-made.ensures in
    subst (λ (n : ℕ). IfSome c.made_weight-made.result (AreAtMost source n plan.indexed)) (sym next)
    (known_at_most source old.indexed plan.indexed has.0 c.requires.indexed.marked (taken.marks has.0 has.1) (taken.items has.0 has.1) step old.weights c.made_weight-made.result has.1 c.requires.indexed.weighed can makes)

pub returns-clause-state : goal.returns-clause-state
returns-clause-state c =
    let old : PlanParts = c.args.self in
    let left : PlanParts = c.prepare.new.self in
    let plan : PlanParts = c.in_ok-plan.plan in
    let new : PlanParts = c.put_created_by.new.self in
    let made : PlanParts = record { indexed = plan.indexed; tables = new.tables; candidates = new.candidates; entries = old.entries; homes = new.homes; barriers = left.barriers; weights = new.weights } in
    let source : List ℕ = c.args.source.now in
    let put : Bool = c.in_ok-put.put in
    let step : Step = c.args.step.now in
    let has : HasStep old.indexed.items step = c.requires.is_step in
    let same : left.indexed ≡ old.indexed = ap (λ (p : PlanParts). p.indexed) c.in_ok-put.ensures.same in
    let next : c.next-next.result ≡ old.indexed.next = c.next-next.ensures ∙ ap (λ (p : PlanParts). p.indexed.next) (c.self-2.view_is ∙ c.in_ok-put.ensures.same) in
    let entries : plan.entries ≡ old.entries = ap (λ (p : PlanParts). p.entries) (c.in_ok-plan.ensures.same) ∙ ap (λ (p : PlanParts). p.entries) c.in_ok-put.ensures.same in
    let homes : plan.homes ≡ old.homes = ap (λ (p : PlanParts). p.homes) (c.in_ok-plan.ensures.same) ∙ ap (λ (p : PlanParts). p.homes) c.in_ok-put.ensures.same in
    let weights : plan.weights ≡ old.weights = ap (λ (p : PlanParts). p.weights) (c.in_ok-plan.ensures.same) ∙ ap (λ (p : PlanParts). p.weights) c.in_ok-put.ensures.same in
    let barriers : plan.barriers ≡ left.barriers = ap (λ (p : PlanParts). p.barriers) (c.in_ok-plan.ensures.same) in
    let tables : plan.tables ≡ left.tables = ap (λ (p : PlanParts). p.tables) (c.in_ok-plan.ensures.same) in
    let candidates : plan.candidates ≡ left.candidates = ap (λ (p : PlanParts). p.candidates) (c.in_ok-plan.ensures.same) in
    let is : new ≡ made = c.in_ok-put_created_by.ensures.same
    ∙ ap (λ (es : List Entry). record { indexed = plan.indexed; tables = new.tables; candidates = new.candidates; entries = es; homes = new.homes; barriers = plan.barriers; weights = new.weights }) entries
    ∙ ap (λ (bs : BarrierParts). record { indexed = plan.indexed; tables = new.tables; candidates = new.candidates; entries = old.entries; homes = new.homes; barriers = bs; weights = new.weights }) barriers in
    let taken : IsTakenOn old.indexed plan.indexed step = taken_on old.indexed left.indexed plan.indexed step same
    (record { items = c.in_ok-plan.ensures.items; marks = c.in_ok-plan.ensures.marks; order_keys = c.in_ok-plan.ensures.order_keys; more = c.in_ok-plan.ensures.more }) in
    let enqueued : AreEnqueued put old.indexed.next made.indexed.marks made.indexed.items made.tables made.candidates made.homes =
    subst (λ (n : ℕ). AreEnqueued put n made.indexed.marks made.indexed.items made.tables made.candidates made.homes) next c.in_ok-put_created_by.ensures.enqueued in
    let stay : StayBefore old.indexed.next left.tables left.candidates old.homes made.tables made.candidates made.homes =
    subst (λ (n : ℕ). StayBefore n left.tables left.candidates old.homes made.tables made.candidates made.homes) next
    (subst (λ (ts : TableParts). StayBefore c.next-next.result ts left.candidates old.homes made.tables made.candidates made.homes) tables
    (subst (λ (cs : List pending.Candidate). StayBefore c.next-next.result plan.tables cs old.homes made.tables made.candidates made.homes) candidates
    (subst (λ (hs : List ℕ). StayBefore c.next-next.result plan.tables plan.candidates hs made.tables made.candidates made.homes) homes c.in_ok-put_created_by.ensures.stay))) in
    let weighed : (n : ℕ) → IsWeighedAt source old.indexed.next made.indexed made.weights n = subst (λ (next : ℕ). (n : ℕ) → IsWeighedAt source next made.indexed made.weights n) next c.in_ok-put_created_by.ensures.weighed in
    let stays : Stay (λ b. b < old.indexed.next) old.weights made.weights = subst (λ (n : ℕ). Stay (λ b. b < n) old.weights made.weights) next
    (subst (λ (w : WeightParts). Stay (λ b. b < c.next-next.result) w made.weights) weights c.in_ok-put_created_by.ensures.weights) in
    λ answers state takes. subst (λ (p : PlanParts). IsState answers source p) (sym is)
    (taken_state c.taken_is_known.ensures c.barriers_go_over.ensures c.sheets_have_room.ensures c.homes_go_on.ensures c.steps_make_of.ensures c.each_is_made_of_itself.ensures answers source old made left.candidates left.tables put step has.0 has.1 c.requires.items (record {
      items = taken.items has.0 has.1;
      marked = c.in_ok-put_created_by.ensures.marked;
      kept = taken.marks has.0 has.1;
      later = taken.more;
      queued = c.in_ok-put.ensures.queued;
      active = c.in_ok-put.ensures.active has.0 has.1;
      covered = covered_behind c.cover_goes_on.ensures put old.indexed made.indexed step has.0 old.tables left.tables made.tables left.candidates made.candidates old.homes made.homes state.indexed.marked c.in_ok-put_created_by.ensures.marked
          (taken.marks has.0 has.1) (taken.items has.0 has.1) has.1 taken.order_keys c.in_ok-put.ensures.tables stay enqueued;
      enqueued = enqueued;
      stay = stay;
      entries = refl;
      barriers = c.in_ok-put.ensures.barriers;
      weighed = weighed_behind source old.indexed made.indexed has.0 state.indexed.marked (taken.marks has.0 has.1) (taken.items has.0 has.1) c.items_stay.ensures c.in_ok-put_created_by.ensures.marked old.weights made.weights stays weighed;
    }) (takes has.0 has.1) state)
