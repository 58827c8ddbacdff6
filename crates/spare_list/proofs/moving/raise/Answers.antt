use Rattle.std.proofs.Common.{arith}
use Rattle.spare_list.proofs.Moves.{raised}
use Rattle.spare_list.proofs.moving.raise.Goals as goal

pub loop-at-preserved : goal.loop-at-preserved
loop-at-preserved g c = record {
  stays = omega arith;
  moved = raised _ _ _ _ c.loop-at.at _ (omega arith) (omega (arith, c.loop-at.invariant.moved.as_many)) c.swap.ensures.items c.loop-at.invariant.moved;
}
