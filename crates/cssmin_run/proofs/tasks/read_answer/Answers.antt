use Rattle.std.proofs.Common.{◌≡◌, ◌≤◌, length, arith}
use Rattle.cssmin_run.proofs.Reading.{all_taken}
use Rattle.cssmin_run.proofs.tasks.read_answer.Goals as goal

pub returns-in-Ok-answer-clause-bounded : goal.returns-in-Ok-answer-clause-bounded
returns-in-Ok-answer-clause-bounded g c =
    let most = g.T.Task.most c.args.task.now in
    let same : c.limit.result ≡ most = c.limit.ensures.is in
    let short : length c.in-Ok.bytes.items ≤ most = omega (arith, c.in-Ok.ensures.short, same) in
    all_taken _ _ c.in-Ok.bytes.items most c.in-Ok.ensures.ok short
