use Rattle.pending_laws.proofs.Rooms.{have_room}
use Rattle.pending_laws.proofs.room.sheets_have_room.Goals as goal

pub returns : goal.returns
returns c = have_room
