use Rattle.std.proofs.Common.{arith, ◌∙◌}
use Rattle.hint_clauses.proofs.Whole.{remainder_rooms, remainders_whole}
use Rattle.hint_clauses.proofs.hints.add_remainders.Goals as goal

pub add_runs-requires-clause-room : goal.add_runs-requires-clause-room
add_runs-requires-clause-room c =
    let r = remainder_rooms c.args.left.now c.args.right.now c.args.g c.args.count c.args.f.now _ c.requires.left c.requires.right c.requires.room in
    rw c.row_of-first.ensures.value r.left

pub add_runs-requires-2-clause-in_range : goal.add_runs-requires-2-clause-in_range
add_runs-requires-2-clause-in_range c =
    let r = remainder_rooms c.args.left.now c.args.right.now c.args.g c.args.count c.args.f.now _ c.requires.left c.requires.right c.requires.room in
    rw (c.in_ok-add_runs.ensures, c.row_of-first.ensures.value) (omega (arith, r.left_more, c.requires.in_range))

pub add_runs-requires-2-clause-room : goal.add_runs-requires-2-clause-room
add_runs-requires-2-clause-room c =
    let r = remainder_rooms c.args.left.now c.args.right.now c.args.g c.args.count c.args.f.now _ c.requires.left c.requires.right c.requires.room in
    rw (c.in_ok-add_runs.ensures, c.row_of-first.ensures.value, c.row_of-second.ensures.value) r.right

pub add_run_pairs-requires-clause-in_range : goal.add_run_pairs-requires-clause-in_range
add_run_pairs-requires-clause-in_range c =
    let r = remainder_rooms c.args.left.now c.args.right.now c.args.g c.args.count c.args.f.now _ c.requires.left c.requires.right c.requires.room in
    rw (c.in_ok-add_runs-2.ensures, c.in_ok-add_runs.ensures, c.row_of-first.ensures.value, c.row_of-second.ensures.value) (omega (arith, r.right_more, c.requires.in_range))

pub add_run_pairs-requires-clause-room : goal.add_run_pairs-requires-clause-room
add_run_pairs-requires-clause-room c =
    let r = remainder_rooms c.args.left.now c.args.right.now c.args.g c.args.count c.args.f.now _ c.requires.left c.requires.right c.requires.room in
    rw (c.in_ok-add_runs-2.ensures, c.in_ok-add_runs.ensures, c.row_of-first.ensures.value, c.row_of-second.ensures.value) r.pairs

pub returns : goal.returns
returns c =
    c.in_ok-add_run_pairs.ensures
    ∙ rw (c.in_ok-add_runs-2.ensures, c.in_ok-add_runs.ensures, c.row_of-first.ensures.value, c.row_of-second.ensures.value)
    (remainders_whole c.args.left.now c.args.right.now c.args.g c.args.count c.args.f.now c.requires.left c.requires.right)
