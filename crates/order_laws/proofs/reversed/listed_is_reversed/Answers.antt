use Rattle.order_laws.proofs.reversed.listed_is_reversed.Goals as goal
use Rattle.order_laws.proofs.ReversedList.{listed_is_reversed}

pub returns : goal.returns
returns c = listed_is_reversed c.relating_is_decided.ensures
