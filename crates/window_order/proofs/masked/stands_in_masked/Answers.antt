use Rattle.window_order.proofs.MaskedTests.{masked_item_is}
use Rattle.window_order.proofs.masked.stands_in_masked.Goals as goal

pub returns : goal.returns
returns c = masked_item_is c.args.p.now c.args.item.now c.args.of_item c.is_in_masked.result c.requires c.is_in_masked.ensures
