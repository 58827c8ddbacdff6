use Rattle.std.proofs.Common.{◌≡◌, ◌+◌, sym, subst}
use Rattle.step_laws.specs.declared.step.Step.{Step}
use Rattle.step_laws.specs.Sizes as sizes
use Rattle.step_laws.specs.Steps.{edit_of}
use Rattle.step_savings.proofs.ShareWeights.{share_weighs}
use Rattle.step_savings.proofs.savings.brought_weight.Goals as goal
use Rattle.step_savings.specs.Weighing.{rule_of, stays_weight}

pub returns-in-Share-clause-exact : goal.returns-in-Share-clause-exact
returns-in-Share-clause-exact g c =
    subst
    (λ (k : Step). c.shared_weight.result + stays_weight (g.L.Lengths.source c.args.lengths.now) k (rule_of c.args.upper.now) (rule_of c.args.lower.now)
    ≡ sizes.brought_weight (g.L.Lengths.source c.args.lengths.now) (edit_of k (rule_of c.args.upper.now) (rule_of c.args.lower.now)).changes)
    (sym c.in-Share.is)
    (share_weighs (g.L.Lengths.source c.args.lengths.now) c.in-Share.upper c.in-Share.lower (rule_of c.args.upper.now) (rule_of c.args.lower.now) c.shared_weight.result c.shared_weight.ensures.exact)
