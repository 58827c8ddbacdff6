use Rattle.std.proofs.Common.{◌∙◌}
use Rattle.cnf.proofs.GrowLemmas.{adder-grows}
use Rattle.cnf.proofs.RangeLemmas.{adder-below}
use Rattle.cnf.proofs.sums.adder.Goals as goal

pub returns-clause-in_range : goal.returns-clause-in_range
returns-clause-in_range c =
    let x = c.deref.ensures.value ∙ c.x.view_is in
    let y = c.deref-2.ensures.value ∙ c.y.view_is in
    rw (c.in_ok-add_numbers.ensures.formula, c.in_ok-add_numbers.ensures.digits) (adder-below c.args.f.now c.deref.result.now c.deref-2.result.now (rw x c.requires.x) (rw y c.requires.y))

pub returns-clause-grows : goal.returns-clause-grows
returns-clause-grows c =
    rw c.in_ok-add_numbers.ensures.formula (adder-grows c.args.f.now c.deref.result.now c.deref-2.result.now)
