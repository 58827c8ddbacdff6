use Rattle.window_order.proofs.StandingTests.{test_is}
use Rattle.window_order.proofs.window.Window.is_behind.Goals as goal
use Rattle.window_order.specs.Reversed.{behind_of}

pub returns : goal.returns
returns c = test_is (behind_of c.args.self.now) c.args.p.now c.stands_behind.result c.stands_behind.ensures
