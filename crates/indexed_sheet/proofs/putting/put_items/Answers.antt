use Rattle.std.proofs.Common.{List, ap, sym, ◌∙◌}
use Rattle.std.specs.List.{insert}
use Rattle.css_model.specs.declared.sheet.Item.{Item}
use Rattle.css_model.specs.declared.sheet.Item.TheVariants as item
use Rattle.indexed_sheet.specs.declared.parts.Left.{Left}
use Rattle.indexed_sheet.specs.Putting.{put_at, items_in}
use Rattle.indexed_sheet.proofs.Puts.{put_none, put_one, put_two}
use Rattle.indexed_sheet.proofs.putting.put_items.Goals as goal

pub returns-in-Nothing : goal.returns-in-Nothing
returns-in-Nothing c =
    c.remove.ensures.list ∙ put_none c.args.number c.args.items
    ∙ ap (λ (left : Left). put_at c.args.number (items_in left) c.args.items) (sym c.in-Nothing.is)

pub returns-in-One : goal.returns-in-One
returns-in-One c =
    c.set.ensures.list ∙ put_one c.args.number (item.Rule c.in-One.rule) c.args.items
    ∙ ap (λ (left : Left). put_at c.args.number (items_in left) c.args.items) (sym c.in-One.is)

pub returns-in_ok-insert-in-Two : goal.returns-in_ok-insert-in-Two
returns-in_ok-insert-in-Two c =
    c.in_ok-insert-in-Two.ensures.list ∙ ap (λ (l : List Item). insert l c.args.number (item.Rule c.in-Two.above)) c.set-in-Two.ensures.list ∙ put_two c.args.number (item.Rule c.in-Two.below) (item.Rule c.in-Two.above) c.args.items c.requires
    ∙ ap (λ (left : Left). put_at c.args.number (items_in left) c.args.items) (sym c.in-Two.is)
