use Rattle.cascade_laws.proofs.InOrder.{applied-in_order, winner-from_order}
use Rattle.cascade_laws.proofs.joining.order_decides_winner.Goals as goal
use Rattle.css_model.specs.Cascade.Winner.{applied}
use Rattle.css_model.specs.Documents.Matching.{matches}

pub returns : goal.returns
returns c = λ doc doc' target target' meanings meanings' items items' us same.
    winner-from_order us (applied doc target meanings items) (applied doc' target' meanings' items')
    (applied-in_order (matches doc target) 0 meanings items) (applied-in_order (matches doc' target') 0 meanings' items') same
