use Rattle.std.proofs.Common.{◌∙◌}
use Rattle.remainders.proofs.Dividing.{divisor_step}
use Rattle.remainders.proofs.divisors.+common_divisor.Goals as goal

pub returns-else-b-eq0 : goal.returns-else-b-eq0
returns-else-b-eq0 t c = c.common_divisor.ensures ∙ divisor_step c.args.a c.args.b
