use Rattle.planner.proofs.Watched.{named_put}
use Rattle.planner.proofs.Results.{on_ok}
use Rattle.planner.proofs.watching.put_named.Goals as goal

pub returns-clause-put : goal.returns-clause-put
returns-clause-put c = on_ok c.put_other.result _ _
    (λ put. named_put c.args.items.now c.args.obstacle.now c.args.candidate.now c.put_pair.new.watched c.put_other.new.watched c.in_ok-put_pair.ensures.put c.put_other.ensures.more put) c.put_other.ensures.put
