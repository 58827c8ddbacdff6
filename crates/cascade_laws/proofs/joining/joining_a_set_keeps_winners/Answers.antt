use Rattle.cascade_laws.proofs.JoiningSets.{joining_a_set}
use Rattle.cascade_laws.proofs.joining.joining_a_set_keeps_winners.Goals as goal

pub returns : goal.returns
returns c = joining_a_set
