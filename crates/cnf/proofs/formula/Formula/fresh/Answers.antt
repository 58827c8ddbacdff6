use Rattle.std.proofs.Common.{◌*◌, ◌+◌, ap, arith}
use Rattle.cnf.specs.Layout.{pieces}
use Rattle.cnf.specs.Lits.{positive}
use Rattle.cnf.proofs.LitLemmas.{all_below-mono}
use Rattle.cnf.proofs.formula.Formula.fresh.Goals as goal

pub invariant_of-self : goal.invariant_of-self
invariant_of-self c =
    let few = c.requires in
    let here = ap (λ f. f.vars) c.self.view_is in
    (omega arith, c.self.invariant.1, all_below-mono c.self.inside.vars (c.self.inside.vars + 1) (omega arith) (pieces 0 c.self.inside.ends.items c.self.inside.lits.items) c.self.invariant.2)

pub returns-clause-value : goal.returns-clause-value
unfolding positive
returns-clause-value c = ap (λ f. record { 0 = 2 * f.vars }) c.self.view_is
