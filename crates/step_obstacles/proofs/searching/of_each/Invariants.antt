use Rattle.std.proofs.Common.{take}
use Rattle.step_obstacles.specs.Asking.{Stays}
use Rattle.step_obstacles.proofs.searching.of_each.Given as goal
use Rattle.step_obstacles.specs.Among.{Among}
use Rattle.step_obstacles.specs.Blocked.{AllPass}
use Rattle.step_obstacles.specs.Known.{IsKnown}
use Rattle.step_obstacles.specs.Turns.{OfDecl}

-- the first ones let the step pass
abbrev pub invariant-loop-decl : goal.invariant-loop-decl
invariant-loop-decl l = record {
  stays : Stays l.fn.pairs l.pairs;
  known : IsKnown l.window l.known;
  pass : AllPass l.pairs.answers l.window (Among (take l.decl l.source.rule.now.decls) (OfDecl l.window.items.now l.met.number l.met.item.now l.source));
}
