use Rattle.order_laws.proofs.moving.moving_rearranges.Goals as goal
use Rattle.order_laws.proofs.MovingRules.{moving_rearranges}

pub returns : goal.returns
returns c = moving_rearranges
