use Rattle.std.proofs.Common.{arith}
use Rattle.css_model.proofs.Same.{rule_decides}
use Rattle.css_model.proofs.sheet.RulePartialEq.eq.Goals as goal

pub returns-then-eq-clause-exact : goal.returns-then-eq-clause-exact
returns-then-eq-clause-exact c =
    grind (arith, rule_decides c.args.self.now c.args.other.now, c.self.view_is, c.other.view_is)

pub returns-else-eq-clause-exact : goal.returns-else-eq-clause-exact
returns-else-eq-clause-exact c =
    grind (arith, rule_decides c.args.self.now c.args.other.now, c.self.view_is, c.other.view_is)
