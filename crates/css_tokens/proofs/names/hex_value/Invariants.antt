use Rattle.std.proofs.Common.{◌≡◌, ◌≤◌, ◌<◌, ◌-◌, ◌^◌, length, drop}
use Rattle.css_model.specs.Text.Names.{hex_value}
use Rattle.css_tokens.proofs.names.hex_value.Given as goal

-- the number that the digits so far write, and what the rest makes of it
abbrev pub invariant-digits : goal.invariant-digits
invariant-digits l =
    (hex_value (6 - l.i) l.value (drop l.i l.text) ≡ hex_value 6 0 l.text) × (l.value < 16 ^ l.i) × (l.i ≤ 6) × (l.i ≤ length l.text)

abbrev pub decreases-digits : goal.decreases-digits
decreases-digits l = 6 - l.i
