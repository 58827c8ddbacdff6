use Rattle.remainders.proofs.Dividing.{common_divides}
use Rattle.remainders.proofs.divisors.common_divisors_are_greatest.Goals as goal

pub returns : goal.returns
returns c = common_divides
