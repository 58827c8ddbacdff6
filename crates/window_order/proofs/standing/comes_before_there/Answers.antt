use Rattle.window_order.proofs.StandingTests.{before_there}
use Rattle.window_order.proofs.standing.comes_before_there.Goals as goal

pub returns-in-Rule : goal.returns-in-Rule
returns-in-Rule c = before_there c.args.item.now c.in-Rule.rule c.args.p.now c.args.q.now c.decls_before.result c.in-Rule.is c.requires.first c.requires.second c.decls_before.ensures
