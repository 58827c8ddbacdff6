use Rattle.queue_laws.proofs.IndexedBarriers.{barriers_over}
use Rattle.queue_laws.proofs.barriers.barriers_go_over.Goals as goal

pub returns : goal.returns
returns c = barriers_over c.barred_items_go_on.ensures c.items_stay.ensures c.marks_are_names.ensures
