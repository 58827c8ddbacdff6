use Rattle.same_text.proofs.Words.{pairs_show_order}
use Rattle.same_text.proofs.laws.reversed_pairs_show_order.Goals as goal

pub returns : goal.returns
returns c = pairs_show_order c.listed_stands_last.ensures c.weighing_is_decided.ensures c.matching_is_decided.ensures c.understanding_is_decided.ensures
