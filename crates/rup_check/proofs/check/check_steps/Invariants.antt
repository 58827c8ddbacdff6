use Rattle.std.proofs.Common.{◌≡◌, ◌++◌, take}
use Rattle.sat_watch.specs.Numbered.{numbered, clauses_of}
use Rattle.rup_check.specs.Checks.{EachForced}
use Rattle.rup_check.specs.Root.{IsRoot}
use Rattle.rup_check.proofs.check.check_steps.Given as goal

abbrev pub invariant-steps : goal.invariant-steps
invariant-steps l = record {
  clauses : clauses_of (numbered l.arena) ≡ l.f.clauses ++ take l.k l.steps;
  vars : l.arena.vars ≡ l.f.vars;
  root : IsRoot l.arena l.trail l.head;
  forced : EachForced l.f.clauses (take l.k l.steps);
}
