use Rattle.pending_laws.proofs.Barring.{lower_barriers_on}
use Rattle.pending_laws.proofs.barred.lower_barriers_go_on.Goals as goal

pub returns : goal.returns
returns c = λ above below j d is. lower_barriers_on c.steps_rearrange.ensures c.unmoved_keep_their_order.ensures above below j d is
