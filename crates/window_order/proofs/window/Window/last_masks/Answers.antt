use Rattle.std.proofs.Common.{◌+◌}
use Rattle.window_order.proofs.MaskedTests.{masks_between}
use Rattle.window_order.proofs.window.Window.last_masks.Goals as goal

pub returns : goal.returns
returns c = masks_between c.args.self.now.items.now c.args.self.now.masks.now c.args.self.now.last (c.args.self.now.last + 1) c.args.self.now.masked
