use Rattle.std.proofs.Common.{arith}
use Rattle.spare_list.proofs.Moves.{lowered}
use Rattle.spare_list.proofs.moving.lower.Goals as goal

pub loop-at-preserved : goal.loop-at-preserved
loop-at-preserved g c = record {
  down = omega arith;
  stays = omega arith;
  moved = lowered _ _ _ _ _ c.loop-at.at (omega arith) (omega (arith, c.loop-at.invariant.moved.as_many)) c.swap.ensures.items c.loop-at.invariant.moved;
}
