use Rattle.std.proofs.Common.{◌≡◌, ℕ, ◌≤◌, length}
use Rattle.repeat_runs.proofs.choosing.greatest.Given as goal
use Rattle.run_laws.specs.Marks.{count_above}

-- no mark before the rest is greater
abbrev pub invariant-rest : goal.invariant-rest
invariant-rest l = record {
  least : l.start ≤ l.most;
  none_above : (n : ℕ) → l.most ≤ n → count_above n l.rest ≡ count_above n l.marks;
}

abbrev pub decreases-rest : goal.decreases-rest
decreases-rest l = length l.rest
