use Rattle.pending_laws.proofs.Rooms.{one_more}
use Rattle.pending_laws.proofs.room.steps_add_one_item.Goals as goal

pub returns : goal.returns
returns c = one_more
