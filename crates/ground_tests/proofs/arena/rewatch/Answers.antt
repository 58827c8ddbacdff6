use Rattle.sat_arena.specs.Arena.{clause_at}
use Rattle.sat_arena.proofs.ForCallers.{among-slice_get}
use Rattle.ground_tests.proofs.arena.rewatch.Goals as goal

pub move_watch-requires-clause-holds : goal.move_watch-requires-clause-holds
move_watch-requires-clause-holds g c = among-slice_get (clause_at c.args.arena.now c.at-clause.result).lits 0 c.literal-to.result c.literal-to.ensures.literal
