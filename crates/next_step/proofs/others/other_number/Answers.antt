use Rattle.std.proofs.Common.{◌≡◌, ◌≤◌}
use Rattle.step_queue.specs.declared.candidate.Scope.TheVariants.{Owned}
use Rattle.next_step.proofs.Owned.{created_later}
use Rattle.next_step.proofs.Telling.{order_key_of_mark}
use Rattle.next_step.proofs.others.other_number.Goals as goal

pub returns-then-owns_none-clause-none : goal.returns-then-owns_none-clause-none
returns-then-owns_none-clause-none c = λ found.
    let young : (c.args.view.now.after.now.scope ≡ Owned) × (c.mark-ours.result.item_id ≤ c.mark-theirs.result.item_id) = c.owns_none.ensures c.if-owns_none.true in
    created_later c.args.view.now found c.args.focus.now.number c.args.order_key c.in_ok-other.other c.mark-theirs.result c.mark-ours.result c.mark-theirs.ensures c.mark-ours.ensures c.marks-marks.ensures.are_marks
    (order_key_of_mark c.args.view.now.indexed.now.marks c.in_ok-other.other c.args.order_key c.mark-theirs.result c.in_ok-other.ensures.some c.mark-theirs.ensures) young.0 young.1 c.requires.focus.owned
