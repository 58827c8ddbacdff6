use Rattle.std.proofs.Common.{arith}
use Rattle.trial_gen.proofs.Growing.{two_draws, one_rule}
use Rattle.trial_gen.proofs.sheet.make_sheet.Goals as goal

pub loop-rule-preserved : goal.loop-rule-preserved
loop-rule-preserved c =
    let k = c.loop-rule._rule in
    let x = c.loop-rule.draws.state in
    record {
      draws = grind (arith, two_draws k x c.loop-rule.invariant.draws);
      text = grind (arith, one_rule k x c.loop-rule.invariant.draws, c.in_ok-push_rule.ensures);
    }
