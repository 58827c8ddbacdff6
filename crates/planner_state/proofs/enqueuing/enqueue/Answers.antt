use Rattle.std.proofs.Common.{◌<◌, ℕ, List, length, sym, subst}
use Rattle.std.specs.List.{Contains}
use Rattle.std.proofs.lemmas.Result.{on_ok_weaker}
use Rattle.css_model.specs.declared.sheet.Item.{Item}
use Rattle.indexed_sheet.specs.declared.marks.Mark.{Mark}
use Rattle.planner_state.specs.Enqueuing.{AreEnqueued}
use Rattle.planner_state.proofs.ItemIds.{enqueued_all}
use Rattle.planner_state.proofs.enqueuing.enqueue.Goals as goal

pub enqueue_those-requires-clause-there : goal.enqueue_those-requires-clause-there
enqueue_those-requires-clause-there c = λ n among. subst (λ (ms : List Mark). n < length ms) (sym c.marks-marks.ensures.marks)
    ((rw c.in-Some.is at c.requires.created).there n (subst (λ (ns : List ℕ). Contains ns n) c.deref.ensures among))

pub returns-in-Some-clause-enqueued : goal.returns-in-Some-clause-enqueued
returns-in-Some-clause-enqueued c =
    on_ok_weaker c.enqueue_those.result (enqueued_all c.args.put c.args.next c.args.indexed.now c.marks-marks.result.now c.items-items.result.now c.in-Some.numbers.items c.deref.result.now
    c.enqueue_those.new.tables c.enqueue_those.new.queue c.enqueue_those.new.homes.items c.marks-marks.ensures.marks c.items-items.ensures c.deref.ensures (rw c.in-Some.is at c.requires.created)) c.enqueue_those.ensures.enqueued

pub returns-in-None-clause-enqueued : goal.returns-in-None-clause-enqueued
returns-in-None-clause-enqueued c =
    on_ok_weaker c.enqueue_each.result
    (λ enqueued. subst (λ (ms : List Mark). AreEnqueued c.args.put c.args.next ms c.args.indexed.now.items c.enqueue_each.new.tables c.enqueue_each.new.queue c.enqueue_each.new.homes.items) c.marks-marks.ensures.marks
    (subst (λ (xs : List Item). AreEnqueued c.args.put c.args.next c.marks-marks.result.now xs c.enqueue_each.new.tables c.enqueue_each.new.queue c.enqueue_each.new.homes.items) c.items-items.ensures enqueued)) c.enqueue_each.ensures.enqueued
