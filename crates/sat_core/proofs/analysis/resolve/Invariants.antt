use Rattle.std.proofs.Common.{◌≡◌, ◌≤◌, ◌<◌, length}
use Rattle.sat_trail.specs.Trail.{lits}
use Rattle.cnf.specs.Propagation.{IsForced}
use Rattle.sat_core.specs.Analysis.{marked, marked_at, MarkedWithin}
use Rattle.sat_watch.specs.Numbered.{numbered, clauses_of}
use Rattle.sat_core.proofs.analysis.resolve.Given as goal

abbrev pub invariant-down : goal.invariant-down
invariant-down l = record {
  same : l.trail ≡ l.fn.trail;
  size : length l.seen.items ≡ l.fn.trail.vars;
  place : l.k ≤ length l.fn.trail.entries;
  within : MarkedWithin l.seen.items l.fn.trail.entries l.k;
  count : l.open ≡ marked_at l.seen.items l.fn.trail.level l.fn.trail.entries;
  some : 0 < l.open;
  forced : IsForced (clauses_of (numbered l.arena)) (marked l.seen.items (lits l.fn.trail.entries));
}

abbrev pub decreases-down : goal.decreases-down
decreases-down l = l.k
