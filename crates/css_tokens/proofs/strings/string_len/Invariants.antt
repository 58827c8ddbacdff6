use Rattle.std.proofs.Common.{◌≡◌, ◌≤◌, ◌+◌, ◌-◌, length, drop}
use Rattle.css_model.specs.Text.Runs.{run}
use Rattle.css_model.specs.Text.Units.{string_unit}
use Rattle.css_tokens.proofs.strings.string_len.Given as goal

-- what was passed, and the run of the rest
abbrev pub invariant-parts : goal.invariant-parts
invariant-parts l =
    (l.i + run (string_unit l.quote) (drop l.i l.text) ≡ run (string_unit l.quote) l.text) × (l.i ≤ length l.text + 9)

abbrev pub decreases-parts : goal.decreases-parts
decreases-parts l = length l.text + 9 - l.i
