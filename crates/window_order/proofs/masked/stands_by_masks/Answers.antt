use Rattle.window_order.proofs.MaskedTests.{told_is}
use Rattle.window_order.proofs.masked.stands_by_masks.Goals as goal

pub returns : goal.returns
returns c = told_is c.args.p.now c.args.items.now c.stands_in_many.result c.stands_in_many.ensures
