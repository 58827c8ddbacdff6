use Rattle.plan_laws.proofs.Barrier.Pending.{pending_goes_on}
use Rattle.plan_laws.proofs.hindering.pending_goes_on.Goals as goal

pub returns : goal.returns
returns c = pending_goes_on c.steps_are_side_by_side.ensures c.savings_go_on.ensures c.hindrances_go_on.ensures c.kept_hindrances_go_on.ensures c.steps_stay_sound.ensures
