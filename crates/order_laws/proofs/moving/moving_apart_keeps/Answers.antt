use Rattle.order_laws.proofs.moving.moving_apart_keeps.Goals as goal
use Rattle.order_laws.proofs.MovingRules.{moving_apart_keeps}

pub returns : goal.returns
returns c = moving_apart_keeps c.relating_is_decided.ensures
