use Rattle.std.proofs.Common.{◌≡◌, ◌++◌, length}
use Rattle.repeat_runs.proofs.choosing.goes.Given as goal
use Rattle.run_laws.specs.Marks.{goes}

-- what was found, and what is left to find
abbrev pub invariant-rest : goal.invariant-rest
invariant-rest l = l.gone.items ++ goes l.least l.left l.rest ≡ goes l.least l.count l.marks

abbrev pub decreases-rest : goal.decreases-rest
decreases-rest l = length l.rest
