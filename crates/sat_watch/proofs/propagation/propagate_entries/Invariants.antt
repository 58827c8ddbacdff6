use Rattle.std.proofs.Common.{◌≡◌, ◌-◌}
use Rattle.sat_watch.specs.Numbered.{numbered}
use Rattle.sat_watch.specs.Soundness.{IsSound}
use Rattle.sat_watch.specs.Watches.{IsReady, IsLonger, ShortAreTrue}
use Rattle.sat_watch.proofs.propagation.propagate_entries.Given as goal

abbrev pub invariant-looks : goal.invariant-looks
invariant-looks l = record {
  same : numbered l.arena ≡ numbered l.fn.arena;
  arena_vars : l.arena.vars ≡ l.fn.arena.vars;
  sound : IsSound (numbered l.arena) l.trail;
  vars : l.trail.vars ≡ l.fn.trail.vars;
  level : l.trail.level ≡ l.fn.trail.level;
  longer : IsLonger l.fn.trail l.trail;
  ready : IsReady l.arena l.trail l.head;
  short : ShortAreTrue l.arena l.trail.entries;
}

abbrev pub decreases-looks : goal.decreases-looks
decreases-looks l = l.trail.vars - l.head
