use Rattle.std.proofs.Common.{arith, ◌∙◌}
use Rattle.hint_clauses.proofs.Sharing.{cells_made, division_room}
use Rattle.hint_clauses.proofs.shared.add_divided.Goals as goal

pub divide_by-requires-clause-room : goal.divide_by-requires-clause-room
divide_by-requires-clause-room c =
    division_room c.args.left.now c.args.right.now c.args.runs.now.numbering c.args.runs.now.count c.args.runs.now.left c.args.runs.now.right c.row_of-row.result c.args.runs.now.step _ c.args.runs.now.left_rests.items
    c.args.runs.now.right_rests.items _ c.args.f.now c.requires.runs.left c.requires.runs.right c.requires.runs.step c.row_of-row.ensures.value c.in_ok-number.ensures.value c.requires.room

pub divide_by-requires-clause-divisor : goal.divide_by-requires-clause-divisor
divide_by-requires-clause-divisor c = omega (arith, c.requires.runs.some)

pub returns : goal.returns
returns c =
    cells_made c.args.left.now c.args.right.now c.args.runs.now.numbering c.args.runs.now.count c.args.runs.now.left c.args.runs.now.right c.row_of-row.result c.args.runs.now.step c.args.runs.now.left_rests.items
    c.args.runs.now.right_rests.items _ _ c.args.f.now _ _ c.requires.left c.requires.right c.requires.runs.left c.requires.runs.right c.requires.runs.step c.row_of-row.ensures.value c.in_ok-number.ensures.value
    c.in_ok-remainder.ensures.formula (c.deref.ensures.value ∙ c.remainder.view_is ∙ c.in_ok-remainder.ensures.remainder) c.in_ok-add_cells.ensures
