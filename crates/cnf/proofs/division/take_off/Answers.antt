use Rattle.std.proofs.Common.{arith}
use Rattle.cnf.specs.Numbers.{with_at_least}
use Rattle.cnf.proofs.RangeLemmas.{at_least-below}
use Rattle.cnf.proofs.GrowLemmas.{at_least-grows, reduced-grows}
use Rattle.cnf.proofs.LitLemmas.{are_below-mono}
use Rattle.cnf.proofs.division.take_off.Goals as goal

pub is_at_least-requires-clause-room : goal.is_at_least-requires-clause-room
is_at_least-requires-clause-room c =
    let fits = with_at_least c.args.f.now c.args.x.now c.args.by in
    omega (arith, c.requires.room, reduced-grows fits.0 fits.1 c.args.x.now c.args.by)

pub reduce-requires-clause-fits : goal.reduce-requires-clause-fits
reduce-requires-clause-fits c =
    rw (c.in_ok-fits.ensures.formula, c.in_ok-fits.ensures.answer) (at_least-below c.args.f.now c.args.x.now c.args.by c.requires.in_range)

pub reduce-requires-clause-in_range : goal.reduce-requires-clause-in_range
reduce-requires-clause-in_range c =
    let fits = with_at_least c.args.f.now c.args.x.now c.args.by in
    rw c.in_ok-fits.ensures.formula (are_below-mono c.args.f.now.vars fits.0.vars (at_least-grows c.args.f.now c.args.x.now c.args.by) c.args.x.now c.requires.in_range)
