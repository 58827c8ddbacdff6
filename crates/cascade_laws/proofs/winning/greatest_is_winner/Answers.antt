use Rattle.cascade_laws.proofs.InOrder.{applied-in_order, greatest-winner}
use Rattle.cascade_laws.proofs.winning.greatest_is_winner.Goals as goal
use Rattle.css_model.specs.Cascade.Winner.{applied}
use Rattle.css_model.specs.Documents.Matching.{matches}

pub returns : goal.returns
returns c = λ doc target meanings items us e. greatest-winner us (applied doc target meanings items) e (applied-in_order (matches doc target) 0 meanings items)
