use Rattle.blockers_laws.proofs.Reported.{each_is_counted}
use Rattle.blockers_laws.proofs.counted.each_blocked_step_is_counted.Goals as goal

pub returns : goal.returns
returns c = each_is_counted
