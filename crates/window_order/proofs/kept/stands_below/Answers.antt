use Rattle.std.proofs.Common.{◌+◌, ◌∙◌, List, map, sym, ap}
use Rattle.std.proofs.lemmas.List.{take_rest}
use Rattle.css_model.specs.declared.sheet.Item.{Item}
use Rattle.item_masks.specs.Masks.{item_mask}
use Rattle.window_order.proofs.MaskedTests.{masks_behind}
use Rattle.window_order.proofs.kept.stands_below.Goals as goal

pub stands_by_masks-requires : goal.stands_by_masks-requires
stands_by_masks-requires c =
    take_rest c.args.masks.now (c.args.number + 1)
    ∙ masks_behind c.args.items.now c.args.masks.now (c.args.number + 1) c.requires.items
    ∙ ap (λ (items : List Item). map item_mask items) (sym (take_rest c.args.items.now (c.args.number + 1)))
