use Rattle.std.proofs.Common.{◌≡◌, ◌≤◌, ◌+◌, ◌-◌, ◌++◌, length, drop}
use Rattle.css_model.specs.Text.Names as escapes
use Rattle.css_tokens.proofs.names.unescaped.Given as goal

-- what was said so far, and what the rest says
abbrev pub invariant-names : goal.invariant-names
invariant-names l =
    (l.out.items ++ escapes.unescaped (drop l.i l.text) ≡ escapes.unescaped l.text) × (l.i ≤ length l.text + 9)

abbrev pub decreases-names : goal.decreases-names
decreases-names l = length l.text + 9 - l.i
