use Rattle.std.proofs.Common.{Bor}
use Rattle.std.proofs.lemmas.Result.{IfOk-at_ok}
use Rattle.overlap.specs.declared.answer.Answer.{Answer}
use Rattle.overlap.specs.Remembered.{IsAnswered}
use Rattle.bench_counts.proofs.Known.{true_kind}
use Rattle.bench_counts.proofs.answering.ask.Goals as goal

pub returns-clause-kind : goal.returns-clause-kind
returns-clause-kind c =
    let h = c.ask.follows.holds-at-none in
    true_kind c.args.pairs.now c.ask.follows.lender-at-none c.args.x.now c.args.y.now c.in_ok-answer.answer.now c.kind_of.result h.0 h.1
    (IfOk-at_ok (λ (answer : Bor Answer). IsAnswered c.ask.follows.lender-at-none.answers c.args.x.now c.args.y.now answer.now) c.in_ok-answer.was h.2) c.kind_of.ensures
