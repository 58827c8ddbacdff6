use Rattle.order_laws.proofs.ComparingTests.{comes_before_is, comes_before_kept_is}
use Rattle.order_laws.proofs.comparing.order_is_decided.Goals as goal

pub returns : goal.returns
returns c = (comes_before_is, comes_before_kept_is)
