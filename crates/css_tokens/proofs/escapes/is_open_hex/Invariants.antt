use Rattle.std.proofs.Common.{◌≡◌, ◌≤◌, ◌-◌, length, drop}
use Rattle.css_model.specs.Text.Kept.{is_open_hex}
use Rattle.css_tokens.proofs.escapes.is_open_hex.Given as goal

-- the digits that were passed, and what the rest says
abbrev pub invariant-digits : goal.invariant-digits
invariant-digits l = (is_open_hex (6 - l.i) (drop l.i l.text) ≡ is_open_hex 6 l.text) × (l.i ≤ 6) × (l.i ≤ length l.text)

abbrev pub decreases-digits : goal.decreases-digits
decreases-digits l = 6 - l.i
