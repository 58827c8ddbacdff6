-- The number of the digits so far.
use Rattle.std.proofs.Common.{◌≡◌, ◌≤◌, take}
use Rattle.css_model.specs.Positions.Notation.{value}
use Rattle.css_model.specs.Positions.Reading.{capped}
use Rattle.nth_positions.proofs.notation.capped_value.Given as goal

abbrev pub invariant-loop-digit : goal.invariant-loop-digit
invariant-loop-digit l = record { exact : l.number ≡ capped (value (take l.digit-index l.digits)); small : l.number ≤ 1001 }
