use Rattle.cnf.proofs.AdderCode.{cell_room, next_column}
use Rattle.cnf.proofs.sums.add_columns.Goals as goal

pub cell-requires-clause-room : goal.cell-requires-clause-room
cell-requires-clause-room c =
    cell_room c.args.f.now c.loop-column.f c.args.columns.now c.loop-column.sums.items c.loop-column.carry c.loop-column.column-index _ _ c.loop-column.invariant c.loop-column-test.true c.requires.room

pub loop-column-preserved : goal.loop-column-preserved
loop-column-preserved c =
    next_column c.args.f.now c.loop-column.f c.cell.new.f c.args.columns.now c.loop-column.sums.items c.push.new.self.items c.loop-column.carry c.in_ok-sum.next c.loop-column.column-index _ c.loop-column.invariant c.loop-column-test.true c.in_ok-sum.ensures.formula (rw (← c.in_ok-sum.ensures.sum) c.in_ok-push.ensures.items) c.in_ok-sum.ensures.carry
