use Rattle.std.proofs.Common.{arith}
use Rattle.css_model.proofs.Same.{compound_decides}
use Rattle.css_model.proofs.selector.CompoundPartialEq.eq.Goals as goal

pub returns-clause-exact : goal.returns-clause-exact
returns-clause-exact c =
    grind (arith, compound_decides c.args.self.now c.args.other.now, c.eq.ensures, c.self.view_is, c.other.view_is)
