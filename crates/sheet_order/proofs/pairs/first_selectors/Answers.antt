use Rattle.sheet_order.proofs.FirstSelectors.{firsts_at_last}
use Rattle.sheet_order.proofs.pairs.first_selectors.Goals as goal

pub returns : goal.returns
returns c = firsts_at_last c.rest.firsts.keys c.rest.number c.rest.rest.now c.args.selectors.now c.in_default.ensures.cases c.rest.invariant.firsts
