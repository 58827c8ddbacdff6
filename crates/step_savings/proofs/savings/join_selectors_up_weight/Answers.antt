use Rattle.step_savings.proofs.JoinWeights.{upper_selectors_weigh}
use Rattle.step_savings.proofs.savings.join_selectors_up_weight.Goals as goal
use Rattle.step_savings.specs.Weighing.{rule_of}

pub returns-clause-exact : goal.returns-clause-exact
returns-clause-exact g c = upper_selectors_weigh (g.L.Lengths.source c.args.lengths.now) (rule_of c.args.upper.now) (rule_of c.args.lower.now) c.selectors_weight.result c.selectors_weight.ensures.exact
