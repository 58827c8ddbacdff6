use Rattle.queue_laws.proofs.IndexedBarriers.{barriers_stay}
use Rattle.queue_laws.proofs.barriers.barriers_stay.Goals as goal

pub returns : goal.returns
returns c = barriers_stay
