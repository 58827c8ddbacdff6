use Rattle.std.proofs.Common.{◌≡◌, length}
use Rattle.sat_core.specs.Analysis.{IsResolved}
use Rattle.sat_watch.specs.Numbered.{numbered, clauses_of}
use Rattle.sat_core.proofs.shortening.shorten.Given as goal

abbrev pub invariant-down : goal.invariant-down
invariant-down l = record {
  size : length l.seen.items ≡ l.trail.vars;
  resolved : IsResolved (clauses_of (numbered l.arena)) l.trail l.seen.items l.at;
}
