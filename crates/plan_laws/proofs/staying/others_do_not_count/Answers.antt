use Rattle.plan_laws.proofs.Barrier.Others.{others_do_not_count}
use Rattle.plan_laws.proofs.staying.others_do_not_count.Goals as goal

pub returns : goal.returns
returns c = others_do_not_count
