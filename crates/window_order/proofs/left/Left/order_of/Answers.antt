use Rattle.window_order.proofs.LeftTests.{in_left, in_made}
use Rattle.window_order.proofs.left.Left.order_of.Goals as goal

pub order_in_whole-requires-clause-first : goal.order_in_whole-requires-clause-first
order_in_whole-requires-clause-first c = in_made c.args.self.now.made c.args.self.now.rest c.in-Some-None.rule c.in-Some-None.is-0 c.in-Some-None.is-1 c.args.p.now c.requires.first

pub order_in_whole-requires-clause-second : goal.order_in_whole-requires-clause-second
order_in_whole-requires-clause-second c = in_made c.args.self.now.made c.args.self.now.rest c.in-Some-None.rule c.in-Some-None.is-0 c.in-Some-None.is-1 c.args.q.now c.requires.second

pub order_in_whole-requires-in-None-Some-clause-first : goal.order_in_whole-requires-in-None-Some-clause-first
order_in_whole-requires-in-None-Some-clause-first c = in_left c.args.self.now.made c.args.self.now.rest c.in-None-Some.rule c.in-None-Some.is-0 c.in-None-Some.is-1 c.args.p.now c.requires.first

pub order_in_whole-requires-in-None-Some-clause-second : goal.order_in_whole-requires-in-None-Some-clause-second
order_in_whole-requires-in-None-Some-clause-second c = in_left c.args.self.now.made c.args.self.now.rest c.in-None-Some.rule c.in-None-Some.is-0 c.in-None-Some.is-1 c.args.q.now c.requires.second
