use Rattle.std.proofs.Common.{◌+◌, sym, ◌∙◌, arith}
use Rattle.rup_check.proofs.FrontLemmas.{number-unique}
use Rattle.rup_check.proofs.fronts.variable.Goals as goal

pub returns-in-None : goal.returns-in-None
returns-in-None c v rest b e = c.in-None.ensures (v + 1) rest (omega arith) e

pub returns-then-number-eq0 : goal.returns-then-number-eq0
returns-then-number-eq0 c v rest b e =
    let small = c.ranges.vars.fits in
    let f = c.in-Some.ensures in
    let zero = c.if-number-eq0.true in
    let u = (number-unique c.in-Some.found.0 (v + 1) 32 c.in-Some.found.1.now rest (let k = f.0 in omega arith) (omega arith) (omega arith) (sym f.1 ∙ e)).0 in
    omega arith
