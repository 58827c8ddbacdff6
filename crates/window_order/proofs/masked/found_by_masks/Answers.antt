use Rattle.window_order.proofs.LastFound.{found_here, one_less}
use Rattle.window_order.proofs.masked.found_by_masks.Goals as goal

pub rest-preserved : goal.rest-preserved
rest-preserved c = one_less c.args.items.now c.rest.rest.now c.in-Some.above.now c.in-Some.last.now c.args.p.now c.args.q.now c.in-Some.ensures.cases.0 c.rest.invariant c.in-Neither.ensures

pub returns-in_default-found_masked : goal.returns-in_default-found_masked
returns-in_default-found_masked c =
    found_here c.args.items.now c.rest.rest.now c.in-Some.above.now c.in-Some.last.now c.args.p.now c.args.q.now c.found_masked.result c.in-Some.ensures.cases.0 c.rest.invariant c.in_default-found_masked.not-Neither c.found_masked.ensures
