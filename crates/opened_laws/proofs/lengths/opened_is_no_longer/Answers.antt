use Rattle.opened_laws.proofs.Media.OpenedRoom.{opened_no_longer}
use Rattle.opened_laws.proofs.lengths.opened_is_no_longer.Goals as goal

pub returns : goal.returns
returns c = opened_no_longer c.bodies_read_back.ensures.short
