use Rattle.std.proofs.Common.{length}
use Rattle.obstacles.specs.Bounds.{IsReached}
use Rattle.step_obstacles.proofs.HeldAnswers.{asked_on}
use Rattle.step_obstacles.proofs.answering.asked_within.Goals as goal

pub returns-in_err-apart-clause-stays : goal.returns-in_err-apart-clause-stays
returns-in_err-apart-clause-stays c =
    let free : IsReached c.args.pairs.now.most (length c.args.pairs.now.answers) → ⊥ = λ full. absurd (let yes = c.is_full.ensures.1 full in let no = c.if-is_full.false in cc) in
    asked_on c.args.pairs.now c.pairs.inside.pairs c.asked_apart.new.pairs c.pairs.inside.most c.args.x.now c.args.y.now c.pairs.view_is free c.asked_apart.ensures.asks c.asked_apart.ensures.list

pub returns-clause-stays : goal.returns-clause-stays
returns-clause-stays c =
    let free : IsReached c.args.pairs.now.most (length c.args.pairs.now.answers) → ⊥ = λ full. absurd (let yes = c.is_full.ensures.1 full in let no = c.if-is_full.false in cc) in
    asked_on c.args.pairs.now c.pairs.inside.pairs c.asked_apart.new.pairs c.pairs.inside.most c.args.x.now c.args.y.now c.pairs.view_is free c.asked_apart.ensures.asks c.asked_apart.ensures.list
