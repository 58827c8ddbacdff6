use Rattle.plan_laws.proofs.Barrier.Hindrances.{other_rules_do_not_count}
use Rattle.plan_laws.proofs.staying.other_rules_do_not_count.Goals as goal

pub returns : goal.returns
returns c = other_rules_do_not_count
