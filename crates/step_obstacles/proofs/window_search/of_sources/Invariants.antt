use Rattle.std.proofs.Common.{take}
use Rattle.step_obstacles.specs.Asking.{Stays}
use Rattle.step_obstacles.proofs.window_search.of_sources.Given as goal
use Rattle.step_obstacles.specs.Among.{Among}
use Rattle.step_obstacles.specs.Blocked.{AllPass}
use Rattle.step_obstacles.specs.Known.{IsKnown}
use Rattle.step_obstacles.specs.Turns.{OfSource}

-- the first ones let the step pass
abbrev pub invariant-loop-source : goal.invariant-loop-source
invariant-loop-source l = record {
  stays : Stays l.fn.pairs l.pairs;
  known : IsKnown l.window l.known;
  pass : AllPass l.pairs.answers l.window (Among (take l.source-index l.sources) (OfSource l.window.items.now l.number l.item));
}
