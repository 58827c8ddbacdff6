use Rattle.std.proofs.Common.{◌∙◌}
use Rattle.sheet_order.proofs.Common.{common_is}
use Rattle.sheet_order.proofs.taking.is_common.Goals as goal

pub returns : goal.returns
returns c = c.is_of_both.ensures ∙ common_is 0 0 c.args.upper.now c.args.lower.now c.args.p.now.pair
