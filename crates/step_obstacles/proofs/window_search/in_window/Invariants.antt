use Rattle.step_obstacles.specs.Asking.{Stays}
use Rattle.step_obstacles.proofs.window_search.in_window.Given as goal
use Rattle.step_obstacles.specs.Blocked.{AllPass}
use Rattle.step_obstacles.specs.Known.{IsKnown}
use Rattle.step_obstacles.specs.Turns.{OfTurns}

-- the items that had their turn let the step pass
abbrev pub invariant-loop-turn : goal.invariant-loop-turn
invariant-loop-turn l = record {
  stays : Stays l.fn.pairs l.pairs;
  known : IsKnown l.window l.known;
  pass : AllPass l.pairs.answers l.window (OfTurns l.window l.span l.upwards l.turn l.sources);
}
