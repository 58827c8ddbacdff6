use Rattle.std.proofs.Common.{◌∙◌}
use Rattle.rule_parts.proofs.LastCommon.{last_common_weighs}
use Rattle.rule_parts.proofs.weights.common_decls_weight.Goals as goal

pub returns-clause-exact : goal.returns-clause-exact
returns-clause-exact g c = c.last_common_weight.ensures.exact ∙ last_common_weighs (g.L.Lengths.source c.args.lengths.now) c.args.others.now c.args.items.now
