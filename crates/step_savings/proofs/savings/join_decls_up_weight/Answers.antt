use Rattle.step_savings.proofs.JoinWeights.{upper_decls_weigh}
use Rattle.step_savings.proofs.savings.join_decls_up_weight.Goals as goal
use Rattle.step_savings.specs.Weighing.{rule_of}

pub returns-clause-exact : goal.returns-clause-exact
returns-clause-exact g c =
    upper_decls_weigh (g.L.Lengths.source c.args.lengths.now) (rule_of c.args.upper.now) (rule_of c.args.lower.now) c.common_selectors_weight-common.result c.decls_weight-decls.result c.common_selectors_weight-common.ensures.exact c.decls_weight-decls.ensures.exact
