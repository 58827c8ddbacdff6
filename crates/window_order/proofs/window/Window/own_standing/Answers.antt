use Rattle.std.proofs.Common.{◌≤◌, ◌<◌, arith}
use Rattle.window_order.proofs.OwnPairs.{own_at_ends, own_between}
use Rattle.window_order.proofs.window.Window.own_standing.Goals as goal
use Rattle.window_order.proofs.window.Window.own_standing.Goals.{else-self-number-via-then-self-number+else-number-self, else-self-number-via-else-self-number}

pub returns-then-number-self : goal.returns-then-number-self
returns-then-number-self c item at p has = own_between c.args.self.now c.args.number c.requires.own item at p has c.if-self-number.true c.if-number-self.true

pub returns-else-self-number : goal.returns-else-self-number
returns-else-self-number c item at p has =
    own_at_ends c.args.self.now c.args.number c.requires.own item at p has c.requires.below
    (elim c.else-self-number.branch [
      | else-self-number-via-then-self-number+else-number-self w ↦ λ above below. omega (arith, w.if-number-self.false)
      | else-self-number-via-else-self-number w ↦ λ above below. omega (arith, w.if-self-number.false)
    ])
