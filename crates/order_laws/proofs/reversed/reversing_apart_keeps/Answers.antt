use Rattle.order_laws.proofs.reversed.reversing_apart_keeps.Goals as goal
use Rattle.order_laws.proofs.ReversedList.{reversing_apart_keeps}

pub returns : goal.returns
returns c = reversing_apart_keeps c.relating_is_decided.ensures
