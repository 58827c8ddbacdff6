use Rattle.std.proofs.Common.{◌≡◌, ◌*◌, ◌^◌, ◌≤◌, take}
use Rattle.blockers_text.proofs.totals.total.Given as goal
use Rattle.blockers_text.specs.Tallies.{total}

-- the steps so far are counted
abbrev pub invariant-loop-step : goal.invariant-loop-step
invariant-loop-step l = record {
  counts : l.count ≡ total l.of (take l.step-index l.steps);
  few : l.count.steps ≤ l.step-index;
  small : l.count.bytes ≤ l.step-index * 2 ^ 32;
}
