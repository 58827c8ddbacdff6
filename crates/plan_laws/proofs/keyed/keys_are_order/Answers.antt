use Rattle.plan_laws.proofs.Barrier.Keys.{keys_are_order}
use Rattle.plan_laws.proofs.keyed.keys_are_order.Goals as goal

pub returns : goal.returns
returns c = keys_are_order
