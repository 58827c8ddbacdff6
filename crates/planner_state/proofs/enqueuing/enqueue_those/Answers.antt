use Rattle.std.proofs.Common.{◌≡◌, ℕ, ◌<◌, List, ◌∷◌, rules, sym, subst}
use Rattle.std.specs.List.{Contains}
use Rattle.std.proofs.lemmas.List.{nil_from_length}
use Rattle.list_facts.proofs.Members.{Contains-here, Contains-there}
use Rattle.planner_state.specs.Enqueuing.{IsEnqueuedAt}
use Rattle.planner_state.proofs.Enqueued.{enqueued_now, enqueued_still, stay_on}
use Rattle.planner_state.proofs.Members as members
use Rattle.planner_state.proofs.enqueuing.enqueue_those.Goals as goal

pub mark_at-mark-requires : goal.mark_at-mark-requires
mark_at-mark-requires c = let is : c.rest.rest.now ≡ c.in-Some.number.now ∷ c.in-Some.behind.now = search rules in
    c.rest.invariant.there c.in-Some.number.now (subst (λ (ns : List ℕ). Contains ns c.in-Some.number.now) (sym is) (Contains-here c.in-Some.number.now c.in-Some.behind.now))

pub item_at-item-requires : goal.item_at-item-requires
item_at-item-requires c = let is : c.rest.rest.now ≡ c.in-Some.number.now ∷ c.in-Some.behind.now = search rules in
    subst (λ (n : ℕ). c.in-Some.number.now < n) c.requires.as_many
    (c.rest.invariant.there c.in-Some.number.now (subst (λ (ns : List ℕ). Contains ns c.in-Some.number.now) (sym is) (Contains-here c.in-Some.number.now c.in-Some.behind.now)))

pub rest-preserved : goal.rest-preserved
rest-preserved c = let is : c.rest.rest.now ≡ c.in-Some.number.now ∷ c.in-Some.behind.now = search rules in record {
  there = λ n among. c.rest.invariant.there n (subst (λ (ns : List ℕ). Contains ns n) (sym is) (Contains-there c.in-Some.number.now c.in-Some.behind.now n among));
  enqueued = members.one_more (IsEnqueuedAt c.args.put c.args.next c.args.marks.now c.args.items.now c.rest.tables c.rest.queue c.rest.homes.items)
      (IsEnqueuedAt c.args.put c.args.next c.args.marks.now c.args.items.now c.enqueue_if_new.new.tables c.enqueue_if_new.new.queue c.enqueue_if_new.new.homes.items)
      c.args.numbers.now c.rest.rest.now c.in-Some.behind.now c.in-Some.number.now is
      (enqueued_still c.args.put c.args.next c.in-Some.number.now c.args.marks.now c.args.items.now c.rest.tables c.enqueue_if_new.new.tables c.rest.queue c.enqueue_if_new.new.queue c.rest.homes.items c.enqueue_if_new.new.homes.items
      c.mark_at-mark.result.now c.item_at-item.result.now c.requires.differ c.mark_at-mark.ensures c.item_at-item.ensures c.in_ok-enqueue_if_new.ensures.enqueued c.in_ok-enqueue_if_new.ensures.stay)
      (enqueued_now c.args.put c.args.next c.in-Some.number.now c.args.marks.now c.args.items.now c.rest.tables c.enqueue_if_new.new.tables c.rest.queue c.enqueue_if_new.new.queue c.rest.homes.items c.enqueue_if_new.new.homes.items
      c.mark_at-mark.result.now c.item_at-item.result.now c.requires.differ c.mark_at-mark.ensures c.item_at-item.ensures c.in_ok-enqueue_if_new.ensures.enqueued c.in_ok-enqueue_if_new.ensures.stay)
      c.rest.invariant.enqueued;
  stay = stay_on c.args.next c.args.tables.now c.rest.tables c.enqueue_if_new.new.tables c.args.queue.now c.rest.queue c.enqueue_if_new.new.queue c.args.homes.now.items c.rest.homes.items c.enqueue_if_new.new.homes.items
      c.rest.invariant.stay c.in_ok-enqueue_if_new.ensures.early;
}

pub returns-clause-enqueued : goal.returns-clause-enqueued
returns-clause-enqueued c = members.all_done (IsEnqueuedAt c.args.put c.args.next c.args.marks.now c.args.items.now c.rest.tables c.rest.queue c.rest.homes.items) c.args.numbers.now c.rest.rest.now
    (nil_from_length c.rest.rest.now (rw c.in_default.is at c.split_first.ensures.cases)) c.rest.invariant.enqueued
