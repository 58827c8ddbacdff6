use Rattle.std.proofs.Common.{ap, arith, ◌∙◌}
use Rattle.sibling_clauses.proofs.Counting.{all_equal, all_left, all_right, count_rooms, counts_whole, second_run}
use Rattle.sibling_clauses.proofs.counts.add_counts.Goals as goal

pub add_run-requires-clause-room : goal.add_run-requires-clause-room
add_run-requires-clause-room c = (count_rooms c.args.g c.args.left.now c.args.right.now c.args.f.now _ c.requires.left c.requires.right c.requires.room).first

pub add_run-requires-2-clause-in_range : goal.add_run-requires-2-clause-in_range
add_run-requires-2-clause-in_range c =
    let r = count_rooms c.args.g c.args.left.now c.args.right.now c.args.f.now _ c.requires.left c.requires.right c.requires.room in
    rw c.in_ok-add_run.ensures (omega (arith, r.first_more, c.requires.in_range))

pub add_run-requires-2-clause-room : goal.add_run-requires-2-clause-room
add_run-requires-2-clause-room c =
    let r = count_rooms c.args.g c.args.left.now c.args.right.now c.args.f.now _ c.requires.left c.requires.right c.requires.room in
    rw c.in_ok-add_run.ensures r.second

pub add_equals-requires-clause-in_range : goal.add_equals-requires-clause-in_range
add_equals-requires-clause-in_range c =
    let r = count_rooms c.args.g c.args.left.now c.args.right.now c.args.f.now _ c.requires.left c.requires.right c.requires.room in
    rw (c.in_ok-add_run-2.ensures, c.in_ok-add_run.ensures) (omega (arith, r.second_more, c.requires.in_range))

pub add_left_orders-requires-clause-in_range : goal.add_left_orders-requires-clause-in_range
add_left_orders-requires-clause-in_range c =
    let r = count_rooms c.args.g c.args.left.now c.args.right.now c.args.f.now _ c.requires.left c.requires.right c.requires.room in
    rw (c.in_ok-add_equals.ensures.formula, c.in_ok-add_run-2.ensures, c.in_ok-add_run.ensures) (omega (arith, r.equal_more, c.requires.in_range))

pub add_left_orders-requires-clause-room : goal.add_left_orders-requires-clause-room
add_left_orders-requires-clause-room c =
    let r = count_rooms c.args.g c.args.left.now c.args.right.now c.args.f.now _ c.requires.left c.requires.right c.requires.room in
    rw (c.in_ok-add_equals.ensures.formula, c.in_ok-add_run-2.ensures, c.in_ok-add_run.ensures) r.left

pub add_right_orders-requires-clause-in_range : goal.add_right_orders-requires-clause-in_range
add_right_orders-requires-clause-in_range c =
    let r = count_rooms c.args.g c.args.left.now c.args.right.now c.args.f.now _ c.requires.left c.requires.right c.requires.room in
    rw (c.in_ok-add_left_orders.ensures, c.in_ok-add_equals.ensures.formula, c.in_ok-add_run-2.ensures, c.in_ok-add_run.ensures) (omega (arith, r.left_more, c.requires.in_range))

pub add_right_orders-requires-clause-room : goal.add_right_orders-requires-clause-room
add_right_orders-requires-clause-room c =
    let r = count_rooms c.args.g c.args.left.now c.args.right.now c.args.f.now _ c.requires.left c.requires.right c.requires.room in
    rw (c.in_ok-add_left_orders.ensures, c.in_ok-add_equals.ensures.formula, c.in_ok-add_run-2.ensures, c.in_ok-add_run.ensures) r.right

pub returns : goal.returns
returns c =
    c.in_ok-add_right_orders.ensures
    ∙ ap (all_right c.args.g c.args.left.now c.args.right.now) (c.in_ok-add_left_orders.ensures ∙ ap (all_left c.args.g c.args.left.now c.args.right.now) (c.in_ok-add_equals.ensures.formula ∙ ap (all_equal c.args.g c.args.left.now c.args.right.now) (c.in_ok-add_run-2.ensures ∙ ap (second_run c.args.g c.args.right.now) c.in_ok-add_run.ensures)))
    ∙ counts_whole c.args.g c.args.left.now c.args.right.now c.args.f.now c.requires.left c.requires.right
