-- A text of less than two bytes holds no `*/`.
use Rattle.std.proofs.Common.{◌∙◌, arith}
use Rattle.nth_positions.proofs.Blanks.{past_close_short}
use Rattle.nth_positions.proofs.notation.after_close.Goals as goal

pub returns : goal.returns
returns c = past_close_short c.loop-rest.rest.now (omega arith) ∙ c.loop-rest.invariant
