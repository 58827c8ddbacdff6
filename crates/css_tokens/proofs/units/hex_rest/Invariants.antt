use Rattle.std.proofs.Common.{◌≡◌, ◌≤◌, ◌+◌, ◌-◌, length, drop}
use Rattle.css_model.specs.Text.Units.{hex_rest}
use Rattle.css_tokens.proofs.units.hex_rest.Given as goal

-- the digits that were passed, and what is left of the rest
abbrev pub invariant-digits : goal.invariant-digits
invariant-digits l =
    (l.i + hex_rest (l.most - l.i) (drop l.i l.text) ≡ hex_rest l.most l.text) × (l.i ≤ l.most) × (l.i ≤ length l.text)

abbrev pub decreases-digits : goal.decreases-digits
decreases-digits l = l.most - l.i
