use Rattle.plan_laws.proofs.Barrier.Behind.{kept_hindrances_go_on}
use Rattle.plan_laws.proofs.renumbering.kept_hindrances_go_on.Goals as goal

pub returns : goal.returns
returns c = kept_hindrances_go_on c.unmoved_keep_their_order.ensures
