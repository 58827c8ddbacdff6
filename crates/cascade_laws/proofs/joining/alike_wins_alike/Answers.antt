use Rattle.cascade_laws.proofs.InOrder.{alike_wins}
use Rattle.cascade_laws.proofs.joining.alike_wins_alike.Goals as goal

pub returns : goal.returns
returns c = alike_wins
