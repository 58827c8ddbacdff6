use Rattle.std.proofs.Common.{List, subst}
use Rattle.css_model.specs.declared.sheet.Item.{Item}
use Rattle.window_order.proofs.window.Window.has_kept_order_other.Goals as goal
use Rattle.window_order.specs.Left.{items_of}
use Rattle.window_order.specs.Orders.{HasOtherPlace}
use Rattle.window_order.specs.Reversed.{first_of, last_of}

pub returns : goal.returns
returns c =
    subst (λ (items : List Item). HasOtherPlace c.args.old c.args.new items c.args.place c.args.p.now c.has_place_other.result) c.between.ensures c.has_place_other.ensures
    (first_of c.args.self.now) (last_of c.args.self.now) (items_of c.args.self.now.first_left) (items_of c.args.self.now.last_left) c.requires.old c.requires.new c.args.self.now.first_plain c.args.self.now.left_plain
