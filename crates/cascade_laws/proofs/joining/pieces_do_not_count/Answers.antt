use Rattle.cascade_laws.proofs.ApplyingAlike.{pieces_alike}
use Rattle.cascade_laws.proofs.joining.pieces_do_not_count.Goals as goal

pub returns : goal.returns
returns c = pieces_alike
