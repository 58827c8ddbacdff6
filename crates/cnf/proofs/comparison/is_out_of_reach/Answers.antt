use Rattle.std.proofs.Common.{◌∙◌}
use Rattle.std.proofs.lemmas.Bool.{le-ltb}
use Rattle.cnf.proofs.ComparisonCode.{nothing_left, wide_enough}
use Rattle.cnf.proofs.comparison.is_out_of_reach.Goals as goal

pub returns-then-digits-lt32 : goal.returns-then-digits-lt32
returns-then-digits-lt32 c = nothing_left c.args.bound c.args.digits

pub returns-else-digits-lt32 : goal.returns-else-digits-lt32
returns-else-digits-lt32 c =
    le-ltb c.args.digits 32 c.if-digits-lt32.false ∙ wide_enough c.args.bound c.args.digits c.ranges.bound.fits c.if-digits-lt32.false
