use Rattle.order_laws.proofs.keeping.keeping_keeps_winners.Goals as goal
use Rattle.order_laws.proofs.Winners.{keeping_keeps}

pub returns : goal.returns
returns c = keeping_keeps
