use Rattle.why_text.proofs.OrderShown.{blocked_moves_show_order}
use Rattle.why_text.proofs.laws.blocked_moves_show_order.Goals as goal

pub returns : goal.returns
returns c = blocked_moves_show_order c.listed_is_reversed.ensures c.matching_is_decided.ensures c.understanding_is_decided.ensures
