use Rattle.std.proofs.Common.{length}
use Rattle.shape_decode.proofs.rows.+row_before.Given as goal

abbrev pub decreases-row_before : goal.decreases-row_before
decreases-row_before l = length l.slots.now
