-- The text alone determines the pair.
use Rattle.nth_positions.proofs.Meanings.{one_meaning}
use Rattle.nth_positions.proofs.notation.notation_is_unambiguous.Goals as goal

pub returns : goal.returns
returns c = one_meaning
