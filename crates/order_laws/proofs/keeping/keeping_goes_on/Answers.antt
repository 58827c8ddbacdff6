use Rattle.order_laws.proofs.keeping.keeping_goes_on.Goals as goal
use Rattle.cascade_laws.proofs.ForCallers.{keeps_on}

pub returns : goal.returns
returns c = keeps_on
