use Rattle.window_order.proofs.MaskedTests.{masks_above}
use Rattle.window_order.proofs.kept.stands_above.Goals as goal

pub stands_by_masks-requires : goal.stands_by_masks-requires
stands_by_masks-requires c = masks_above c.args.items.now c.args.masks.now c.args.number c.requires.items
