use Rattle.std.proofs.Common.{◌+◌, ◌∙◌}
use Rattle.std.proofs.lemmas.List.{take_rest}
use Rattle.window_order.proofs.MaskedTests.{masks_behind}
use Rattle.window_order.proofs.window.Window.behind_masks.Goals as goal

pub returns : goal.returns
returns c =
    take_rest c.args.self.now.masks.now (c.args.self.now.last + 1)
    ∙ masks_behind c.args.self.now.items.now c.args.self.now.masks.now (c.args.self.now.last + 1) c.args.self.now.masked
