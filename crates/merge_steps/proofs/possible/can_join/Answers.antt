use Rattle.std.proofs.Common.{◌≡◌, ◌↔◌, true, arith}
use Rattle.std.proofs.lemmas.Result.{IfOk-weaker}
use Rattle.merge_steps.proofs.Joins.{join_is}
use Rattle.merge_steps.proofs.possible.can_join.Goals as goal
use Rattle.merge_steps.specs.StepParts.{MayJoin}

pub returns-in-Some-find_rule : goal.returns-in-Some-find_rule
returns-in-Some-find_rule c =
    IfOk-weaker c.may_join.result (λ may. (may ≡ true) ↔ MayJoin c.args.items.now c.args.step.now c.in-Some.above.now c.in-Some-find_rule.below.now) _
    (λ may exact. join_is c.args.items.now c.args.step.now c.args.upper c.args.lower c.in-Some.above.now c.in-Some-find_rule.below.now c.requires.join c.requires.first c.requires.last
    (omega (arith, c.if-upper-lower.false)) c.in-Some.ensures.some c.in-Some-find_rule.ensures.some may exact) c.may_join.ensures
