use Rattle.std.proofs.Common.{Bor, sym}
use Rattle.std.proofs.lemmas.Result.{IfOk-at_ok}
use Rattle.overlap.specs.declared.answer.Answer.{Answer}
use Rattle.overlap.specs.Remembered.{IsAnswered}
use Rattle.step_obstacles.proofs.answering.asked_apart.Goals as goal

pub returns-clause-asks : goal.returns-clause-asks
returns-clause-asks c = c.ask.follows.holds-at-none.0

pub returns-clause-list : goal.returns-clause-list
returns-clause-list c = c.ask.follows.holds-at-none.1

pub returns-clause-answered : goal.returns-clause-answered
returns-clause-answered c =
    let h = c.ask.follows.holds-at-none in
    (c.in_ok-answer.answer.now, IfOk-at_ok (λ (answer : Bor Answer). IsAnswered c.ask.follows.lender-at-none.answers c.args.x.now c.args.y.now answer.now) c.in_ok-answer.was h.2, sym c.says_apart.ensures)
