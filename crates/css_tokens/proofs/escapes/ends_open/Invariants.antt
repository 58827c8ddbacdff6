use Rattle.std.proofs.Common.{◌≡◌, ◌≤◌, length}
use Rattle.css_model.specs.Text.Kept.{is_open}
use Rattle.css_tokens.proofs.escapes.ends_open.Given as goal

-- the rest ends as the whole text does
abbrev pub invariant-escapes : goal.invariant-escapes
invariant-escapes l = (is_open l.rest ≡ is_open l.text) × (length l.rest ≤ length l.text)

abbrev pub decreases-escapes : goal.decreases-escapes
decreases-escapes l = length l.rest
