use Rattle.std.proofs.Common.{◌≡◌, ◌+◌, ◌≤◌, length}
use Rattle.repeat_runs.proofs.choosing.count_above.Given as goal
use Rattle.run_laws.specs.Marks.{count_above}

-- those of the rest and those that were counted
abbrev pub invariant-rest : goal.invariant-rest
invariant-rest l = record {
  counted : l.count + count_above l.least l.rest ≡ count_above l.least l.marks;
  few : l.count + length l.rest ≤ length l.marks;
}

abbrev pub decreases-rest : goal.decreases-rest
decreases-rest l = length l.rest
