use Rattle.pending_laws.proofs.Beside.{hindered_on}
use Rattle.pending_laws.proofs.behind.hindered_goes_on.Goals as goal

pub returns : goal.returns
returns c = λ answers items j d k e room step on. hindered_on c.hindrances_go_on.ensures c.kept_hindrances_go_on.ensures answers items d e (c.going_on_is_side_by_side.ensures items j d k e room step on)
