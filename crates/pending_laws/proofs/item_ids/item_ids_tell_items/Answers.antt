use Rattle.pending_laws.proofs.Created.{item_ids_tell}
use Rattle.pending_laws.proofs.item_ids.item_ids_tell_items.Goals as goal

pub returns : goal.returns
returns c = item_ids_tell
