use Rattle.plan_laws.proofs.Barrier.Behind.{hindrances_go_on}
use Rattle.plan_laws.proofs.renumbering.hindrances_go_on.Goals as goal

pub returns : goal.returns
returns c = hindrances_go_on c.unmoved_keep_their_order.ensures
