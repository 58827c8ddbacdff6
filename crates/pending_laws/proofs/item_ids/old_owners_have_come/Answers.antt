use Rattle.pending_laws.proofs.Created.{old_owners_have_come}
use Rattle.pending_laws.proofs.item_ids.old_owners_have_come.Goals as goal

pub returns : goal.returns
returns c = old_owners_have_come
