use Rattle.window_order.proofs.MaskedTests.{masks_between}
use Rattle.window_order.proofs.window.Window.first_masks.Goals as goal

pub returns : goal.returns
returns c = masks_between c.args.self.now.items.now c.args.self.now.masks.now c.args.self.now.start c.args.self.now.middle c.args.self.now.masked
