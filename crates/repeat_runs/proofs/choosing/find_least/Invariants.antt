use Rattle.std.proofs.Common.{◌≡◌, ◌⊎◌, ◌+◌, ◌-◌, ◌<◌, ◌≤◌}
use Rattle.repeat_runs.proofs.choosing.find_least.Given as goal
use Rattle.run_laws.specs.Marks.{count_above}

-- no more marks than there may be are greater than the upper bound, and more of them are than what is below the lower one
abbrev pub invariant-halves : goal.invariant-halves
invariant-halves l = record {
  some : 0 < l.low;
  order : l.low ≤ l.high;
  few : count_above l.high l.decls + count_above l.high l.selectors ≤ l.most;
  least : (l.low ≡ 1) ⊎ (l.most < count_above (l.low - 1) l.decls + count_above (l.low - 1) l.selectors);
}

abbrev pub decreases-halves : goal.decreases-halves
decreases-halves l = l.high - l.low
