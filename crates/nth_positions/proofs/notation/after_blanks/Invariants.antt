-- What follows the blanks of the rest is what follows those of the text.
use Rattle.std.proofs.Common.{◌≡◌, length}
use Rattle.css_model.specs.Positions.Reading.{past_blanks}
use Rattle.nth_positions.proofs.notation.after_blanks.Given as goal

abbrev pub invariant-loop-next : goal.invariant-loop-next
invariant-loop-next l = past_blanks l.rest ≡ past_blanks l.text

abbrev pub decreases-loop-next : goal.decreases-loop-next
decreases-loop-next l = length l.rest
