use Rattle.std.proofs.Common.{List, subst}
use Rattle.css_model.specs.declared.sheet.Item.{Item}
use Rattle.window_order.proofs.window.Window.last_order.Goals as goal
use Rattle.window_order.specs.Orders.{IsOrder}

pub returns : goal.returns
returns c = subst (λ (items : List Item). IsOrder items c.args.p.now c.args.q.now c.order_by_both.result) c.last.ensures c.order_by_both.ensures
