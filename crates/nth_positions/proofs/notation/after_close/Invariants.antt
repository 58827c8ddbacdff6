-- What is left holds the first `*/` of the text.
use Rattle.std.proofs.Common.{◌≡◌, length}
use Rattle.css_model.specs.Positions.Reading.{past_close}
use Rattle.nth_positions.proofs.notation.after_close.Given as goal

abbrev pub invariant-loop-rest : goal.invariant-loop-rest
invariant-loop-rest l = past_close l.rest ≡ past_close l.text

abbrev pub decreases-loop-rest : goal.decreases-loop-rest
decreases-loop-rest l = length l.rest
