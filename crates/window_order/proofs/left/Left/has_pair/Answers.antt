use Rattle.std.proofs.Common.{◌≡◌, ◌↔◌, ◌||◌, Bool, true, subst}
use Rattle.css_model.specs.Cascade.Order.{HasPair}
use Rattle.window_order.proofs.LeftTests.{has_in_both}
use Rattle.window_order.proofs.left.Left.has_pair.Goals as goal
use Rattle.window_order.specs.Left.{items_of, made_of, rest_of}

pub returns-else-is_in_any : goal.returns-else-is_in_any
returns-else-is_in_any c = subst (λ (a : Bool). ((a || c.is_in_any-else-is_in_any.result) ≡ true) ↔ HasPair (items_of c.args.self.now) c.args.p.now) c.if-is_in_any.false
    (has_in_both (made_of c.args.self.now.made) (rest_of c.args.self.now.rest) c.args.p.now c.is_in_any.result c.is_in_any-else-is_in_any.result c.is_in_any.ensures.made c.is_in_any-else-is_in_any.ensures.rest)
