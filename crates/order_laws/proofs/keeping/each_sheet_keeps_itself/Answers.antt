use Rattle.order_laws.proofs.keeping.each_sheet_keeps_itself.Goals as goal
use Rattle.cascade_laws.proofs.ForCallers.{keeps_itself}

pub returns : goal.returns
returns c = keeps_itself
