use Rattle.remainders.proofs.Moving.{moved_left}
use Rattle.remainders.proofs.leaving.moving_keeps_remainders.Goals as goal

pub returns : goal.returns
returns c = moved_left
