use Rattle.std.proofs.Common.{◌<◌, refl, arith}
use Rattle.cnf.specs.Numbers.{remainder_digits}
use Rattle.cnf.proofs.DivisionLemmas.{digits-over}
use Rattle.cnf.proofs.division.digits_of_remainder.Goals as goal

pub returns-clause-value : goal.returns-clause-value
unfolding remainder_digits
returns-clause-value c = refl

pub returns-clause-enough : goal.returns-clause-enough
unfolding remainder_digits
returns-clause-enough c =
    let none = c.requires in let pos : 0 < c.args.by = omega arith in digits-over c.args.by pos c.ranges.by.fits
