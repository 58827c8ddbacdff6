use Rattle.told_laws.proofs.Showing.{told_show}
use Rattle.told_laws.proofs.order.told_couples_show_order.Goals as goal

pub returns : goal.returns
returns c = told_show c.matching_is_decided.ensures c.understanding_is_decided.ensures c.weighing_is_decided.ensures
