use Rattle.order_laws.proofs.keeping.keeping_is_mutual.Goals as goal
use Rattle.cascade_laws.proofs.ForCallers.{keeps_back}

pub returns : goal.returns
returns c = keeps_back
