use Rattle.std.proofs.Common.{◌∙◌}
use Rattle.cnf.proofs.GrowLemmas.{division-grows}
use Rattle.cnf.proofs.RangeLemmas.{division-below}
use Rattle.cnf.proofs.division.divide_by.Goals as goal

pub returns-clause-quotient_in_range : goal.returns-clause-quotient_in_range
returns-clause-quotient_in_range c =
    let x = c.deref.ensures.value ∙ c.x.view_is in
    let below = division-below c.args.f.now c.deref.result.now c.args.by (rw x c.requires.in_range) in
    rw (c.in_ok-quotient.ensures.formula, c.in_ok-quotient.ensures.quotient) below.quotient_below

pub returns-clause-remainder_in_range : goal.returns-clause-remainder_in_range
returns-clause-remainder_in_range c =
    let x = c.deref.ensures.value ∙ c.x.view_is in
    let below = division-below c.args.f.now c.deref.result.now c.args.by (rw x c.requires.in_range) in
    rw (c.in_ok-quotient.ensures.formula, c.in_ok-quotient.ensures.remainder) below.remainder_below

pub returns-clause-grows : goal.returns-clause-grows
returns-clause-grows c =
    rw c.in_ok-quotient.ensures.formula (division-grows c.args.f.now c.deref.result.now c.args.by)
