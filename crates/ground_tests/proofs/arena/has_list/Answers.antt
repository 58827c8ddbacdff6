use Rattle.sat_arena.specs.Arena.{watch_list}
use Rattle.sat_arena.proofs.ForCallers.{member-first_of, member-next_in}
use Rattle.ground_tests.proofs.arena.has_list.Goals as goal

pub loop-place-init : goal.loop-place-init
loop-place-init c = member-first_of (watch_list c.args.arena.now c.args.lit) _ c.first-next.ensures

pub loop-place-preserved : goal.loop-place-preserved
loop-place-preserved c = member-next_in (watch_list c.args.arena.now c.args.lit) _ _ c.next-next.ensures
