use Rattle.std.proofs.Common.{◌≡◌, ◌≤◌, ◌+◌, ◌-◌, length, drop}
use Rattle.css_model.specs.Text.Runs.{run}
use Rattle.css_tokens.specs.UnitOf.{unit_of}
use Rattle.css_tokens.proofs.runs.run.Given as goal

-- the units that were passed, and the run of the rest
abbrev pub invariant-units : goal.invariant-units
invariant-units l =
    (l.i + run (unit_of l.unit) (drop l.i l.text) ≡ run (unit_of l.unit) l.text) × (l.i ≤ length l.text + 9)

abbrev pub decreases-units : goal.decreases-units
decreases-units l = length l.text + 9 - l.i
