use Rattle.std.proofs.Common.{length}
use Rattle.std.specs.Prelude.{◌↔◌}
use Rattle.repeat_runs.proofs.finding.are_kept.Given as goal
use Rattle.run_laws.specs.Runs.{AreKept}

-- no item before the rest is a rule
abbrev pub invariant-rest : goal.invariant-rest
invariant-rest l = AreKept l.rest ↔ AreKept l.items

abbrev pub decreases-rest : goal.decreases-rest
decreases-rest l = length l.rest
