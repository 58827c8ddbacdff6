use Rattle.same_laws.proofs.Winning.{parts_keep}
use Rattle.same_laws.proofs.same.same_parts_keep.Goals as goal

pub returns : goal.returns
returns c = parts_keep c.listed_stands_last.ensures c.order_is_decided.ensures c.weighing_is_decided.ensures c.apart_selectors_do_not_meet.ensures
