use Rattle.order_laws.proofs.ComparingTests.{weigh_is, weighs_kept_is}
use Rattle.order_laws.proofs.comparing.weighing_is_decided.Goals as goal

pub returns : goal.returns
returns c = (weigh_is c.relating_is_decided.ensures, weighs_kept_is c.relating_is_decided.ensures)
