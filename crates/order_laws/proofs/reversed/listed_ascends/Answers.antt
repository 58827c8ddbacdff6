use Rattle.std.specs.List.{flat_map}
use Rattle.order_laws.proofs.ReversedOrder.{ascending_ascends}
use Rattle.order_laws.proofs.reversed.listed_ascends.Goals as goal
use Rattle.order_laws.specs.Reversed.{reversed_with, moved_pairs}

pub returns : goal.returns
returns c = λ items items' m. ascending_ascends (flat_map (reversed_with items items') (moved_pairs items m))
