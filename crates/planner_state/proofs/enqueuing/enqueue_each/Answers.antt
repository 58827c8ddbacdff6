use Rattle.std.proofs.Common.{arith}
use Rattle.planner_state.proofs.Enqueued.{one_more, stay_on, all_enqueued}
use Rattle.planner_state.proofs.enqueuing.enqueue_each.Goals as goal

pub numbers-preserved : goal.numbers-preserved
numbers-preserved c = record {
  so_far = one_more c.args.put c.args.next c.numbers.number c.args.marks.now c.args.items.now c.numbers.tables c.enqueue_if_new.new.tables c.numbers.queue c.enqueue_if_new.new.queue c.numbers.homes.items c.enqueue_if_new.new.homes.items
      c.mark_at-mark.result.now c.item_at-item.result.now c.requires.differ c.mark_at-mark.ensures c.item_at-item.ensures c.in_ok-enqueue_if_new.ensures.enqueued c.in_ok-enqueue_if_new.ensures.stay c.numbers.invariant.so_far;
  stay = stay_on c.args.next c.args.tables.now c.numbers.tables c.enqueue_if_new.new.tables c.args.queue.now c.numbers.queue c.enqueue_if_new.new.queue c.args.homes.now.items c.numbers.homes.items c.enqueue_if_new.new.homes.items
      c.numbers.invariant.stay c.in_ok-enqueue_if_new.ensures.early;
}

pub returns-clause-enqueued : goal.returns-clause-enqueued
returns-clause-enqueued c = all_enqueued c.args.put c.args.next c.numbers.number c.args.marks.now c.args.items.now c.numbers.tables c.numbers.queue c.numbers.homes.items (omega (arith, c.numbers-test.false)) c.numbers.invariant.so_far
