use Rattle.std.proofs.Common.{◌∙◌, sym, ap}
use Rattle.order_laws.specs.Members.{has_selector}
use Rattle.window_order.proofs.LeftTests.{has_joined}
use Rattle.window_order.proofs.left.has_left_selector.Goals as goal
use Rattle.window_order.specs.Left.{selectors_of}
use Rattle.window_order.specs.declared.left.LeftSelectors.{LeftSelectors}

pub returns-in-Joined : goal.returns-in-Joined
returns-in-Joined c =
    c.has_either-in-Joined.ensures
    ∙ sym (has_joined c.in-Joined.first.now c.in-Joined.second.now c.args.selector.now)
    ∙ ap (λ (ss : LeftSelectors). has_selector (selectors_of ss) c.args.selector.now) (sym c.in-Joined.is)
