use Rattle.std.proofs.Common.{◌≡◌, IsTrue, take}
use Rattle.std.specs.List.{list_all}
use Rattle.sat_trail.specs.Trail.{lits}
use Rattle.sat_watch.specs.Numbered.{numbered}
use Rattle.sat_watch.specs.Soundness.{is_false}
use Rattle.rup_check.specs.Root.{DecidedBy, IsQuiet}
use Rattle.rup_check.proofs.root.refute.Given as goal

abbrev pub invariant-loop-k : goal.invariant-loop-k
invariant-loop-k l = record {
  same : numbered l.arena ≡ numbered l.fn.arena;
  vars : l.arena.vars ≡ l.fn.arena.vars;
  quiet : IsQuiet l.arena l.trail l.head;
  decided : DecidedBy l.clause l.trail.entries;
  denied : IsTrue (list_all (is_false (lits l.trail.entries)) (take l.k l.clause));
}
