use Rattle.std.proofs.Common.{arith}
use Rattle.css_model.proofs.Same.{kept_rule_decides}
use Rattle.css_model.proofs.sheet.KeptRulePartialEq.eq.Goals as goal

pub returns-then-eq-2-clause-exact : goal.returns-then-eq-2-clause-exact
returns-then-eq-2-clause-exact c =
    grind (arith, kept_rule_decides c.args.self.now c.args.other.now, c.self.view_is, c.other.view_is)

pub returns-else-eq-2-clause-exact : goal.returns-else-eq-2-clause-exact
returns-else-eq-2-clause-exact c =
    grind (arith, kept_rule_decides c.args.self.now c.args.other.now, c.self.view_is, c.other.view_is)
