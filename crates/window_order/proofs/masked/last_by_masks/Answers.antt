use Rattle.std.proofs.Common.{List, ap, map, sym, ◌∙◌}
use Rattle.css_model.specs.declared.sheet.Item.{Item}
use Rattle.item_masks.specs.Masks.{item_mask}
use Rattle.window_order.proofs.MaskedTests.{masks_above}
use Rattle.window_order.proofs.Passed.{passed_above, place_above}
use Rattle.window_order.proofs.masked.last_by_masks.Goals as goal

pub returns-then-stands_in_few : goal.returns-then-stands_in_few
returns-then-stands_in_few c = place_above c.args.items.now c.rest.rest.now c.args.p.now c.last_of_few.result c.rest.invariant.above c.last_of_few.ensures

pub rest-preserved : goal.rest-preserved
rest-preserved c = record {
  above = passed_above c.args.items.now c.rest.rest.now c.split_at.result.0.now c.split_at.result.1.now _ c.args.p.now c.stands_in_few.result c.rest.invariant.above c.split_at.ensures.front c.split_at.ensures.back c.stands_in_few.ensures c.if-stands_in_few.false;
  masks =
      c.split_at-in-rest.ensures.front
      ∙ masks_above c.rest.rest.now c.rest.of_rest.now _ c.rest.invariant.masks
      ∙ ap (λ (xs : List Item). map item_mask xs) (sym c.split_at.ensures.front);
}

pub returns : goal.returns
returns c = place_above c.args.items.now c.rest.rest.now c.args.p.now c.last_of_few-2.result c.rest.invariant.above c.last_of_few-2.ensures
